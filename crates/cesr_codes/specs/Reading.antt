-- What reading a primitive gives: the value at the front, or the first rule that the text fails.
use Rattle.std.specs.Prelude.{◌≡◌, ℕ, ◌+◌, ◌*◌, ◌/◌, ◌≤◌, List, ◌++◌, length, take, drop, not, position, true, false}
use Rattle.std.specs.List.{list_all}
use Rattle.std.specs.declared.option.Option.TheVariants.{Some}
use Rattle.std.specs.declared.result.Result.{Result}
use Rattle.std.specs.declared.result.Result.TheVariants.{Ok, Err}
use Rattle.lists.specs.KeriSpecs.Base64.{base64_text, whole_number, is_character, AreBytes}
use Rattle.cesr_codes.specs.declared.code_fault.CodeFault.{CodeFault}
use Rattle.cesr_codes.specs.declared.code_fault.CodeFault.TheVariants.{Short}
use Rattle.cesr_codes.specs.Table.{Layout, Verdict, good, short, bad, verdict, has_code, has_other_index, layout_verdict, whole_verdict, total}

-- the value's spelling stands at the front, and is of this length
pub record IsAtFront {V : Type 0} (spelling : V → List ℕ) (IsValue : V → Type 0) (text : List ℕ) (value : V) (count : ℕ) : Type 0 where
  pub valid : IsValue value
  pub counted : count ≡ length (spelling value)
  pub enough : count ≤ length text
  pub front : text ≡ spelling value ++ drop count text

-- how a text is judged that fails a rule
abbrev pub refusal : CodeFault → Verdict
refusal Short = short
refusal fault = bad fault

module _ {V : Type 0} (judge : List ℕ → Verdict) (spelling : V → List ℕ) (IsValue : V → Type 0) where
  -- the value at the front with the length of its spelling, or the first rule that the text fails
  abbrev pub Reads : List ℕ → Result (V × ℕ) CodeFault → Type 0
  Reads text (Ok found) = (judge text ≡ good found.1) × IsAtFront spelling IsValue text found.0 found.1
  Reads text (Err fault) = judge text ≡ refusal fault

-- the characters before the digits
abbrev pub head : Layout → ℕ
head l = length l.code + l.index

-- as many digits as the bytes need, and a short head
pub record HasSizes (bytes : ℕ) (l : Layout) : Type 0 where
  pub raw : l.bytes ≡ bytes
  pub digits : l.digits ≡ (4 * bytes + 2) / 3
  pub few : bytes ≤ 66
  pub short_head : head l ≤ 6

-- all are characters, the digits are those of the raw bytes, and there is no other index
pub record IsWhole (l : Layout) (text raw : List ℕ) : Type 0 where
  pub bytes : AreBytes l.bytes raw
  pub characters : list_all is_character text ≡ true
  pub digits : drop (head l) text ≡ base64_text l.digits (whole_number raw)
  pub no_other : has_other_index l text ≡ false

-- a primitive of a layout stands at the front
pub record IsCoded (layouts : List Layout) (l : Layout) (text raw : List ℕ) : Type 0 where
  pub judged : verdict layouts text ≡ good (total l)
  pub code : has_code text l ≡ true
  pub enough : total l ≤ length text
  pub whole : IsWhole l (take (total l) text) raw

module _ (l : Layout) where
  -- the raw bytes of all the characters of a primitive
  abbrev pub ReadsWhole : List ℕ → List ℕ → Result (Unit {0}) CodeFault → Type 0
  ReadsWhole text raw (Ok _) = (whole_verdict l text (position (λ c. not (is_character c)) text) ≡ good (total l)) × IsWhole l text raw
  ReadsWhole text raw (Err fault) = whole_verdict l text (position (λ c. not (is_character c)) text) ≡ refusal fault

  -- the raw bytes of a text with this code
  abbrev pub ReadsBehind : List ℕ → List ℕ → Result (Unit {0}) CodeFault → Type 0
  ReadsBehind text raw (Ok _) = (layout_verdict (Some l) text ≡ good (total l)) × (total l ≤ length text) × IsWhole l (take (total l) text) raw
  ReadsBehind text raw (Err fault) = layout_verdict (Some l) text ≡ refusal fault

module _ {C : Type 0} (layouts : List Layout) (layout_of : C → Layout) where
  -- the code at the front, by whose layout the text is judged
  abbrev pub FindsCode : List ℕ → Result C CodeFault → Type 0
  FindsCode text (Ok code) = (has_code text (layout_of code) ≡ true) × (verdict layouts text ≡ layout_verdict (Some (layout_of code)) text)
  FindsCode text (Err fault) = verdict layouts text ≡ refusal fault

  -- the code at the front, and the raw bytes behind it
  abbrev pub ReadsCoded : List ℕ → List ℕ → Result C CodeFault → Type 0
  ReadsCoded text raw (Ok code) = IsCoded layouts (layout_of code) text raw
  ReadsCoded text raw (Err fault) = verdict layouts text ≡ refusal fault
