-- What stands at the front where a primitive of a layout does, and how its spelling is judged.
use Rattle.std.proofs.Common.{◌≡◌, ◌≢◌, ℕ, ◌+◌, ◌^◌, ◌<◌, not, nat_le, nat_lt, true, false, Bool, if◌then◌else◌, List, ◌++◌, length, take, drop, refl, sym, ap, ◌∙◌, arith, length-append, length-drop, Ok, Err, None, Some, Option, Result, position}
use Rattle.std.proofs.Math.Seq.{take-add}
use Rattle.std.proofs.lemmas.Bool.{le-ltb, le-leb, lt-leb}
use Rattle.std.proofs.lemmas.List.{take_at, drop_at, drop-take, take-append-drop}
use Rattle.std.proofs.lemmas.Slice.Eq.{bytes_eq-Decides}
use Rattle.std.specs.List.{list_all}
use Rattle.lists.specs.KeriSpecs.Base64.{whole_number, AreBytes, base64_text, is_character, number_of_text}
use Rattle.cesr_codes.specs.declared.code_fault.CodeFault.{CodeFault}
use Rattle.cesr_codes.specs.declared.code_fault.CodeFault.TheVariants.{Short, CodeNotHeld, BadCharacter, PadBits, OtherIndex}
use Rattle.cesr_codes.specs.declared.symbols.Decoded.TheVariants.{Whole, Large}
use Rattle.cesr_codes.specs.Decoding.{IsDecoded}
use Rattle.cesr_codes.specs.Reading.{Reads, IsCoded, IsWhole, refusal, head}
use Rattle.cesr_codes.specs.Table.{Layout, layout, Verdict, good, short, bad, has_code, has_other_index, layout_verdict, whole_verdict, total}
use Rattle.cesr_codes.proofs.Numbers.{bytes_low, text-number, number-text, no_failure, characters-drop, characters-append, characters-text, length-base64_text}

-- the code at the front
pub code_is : (l : Layout) (text : List ℕ) → has_code text l ≡ true → take (length l.code) text ≡ l.code
code_is l text h = (bytes_eq-Decides (take (length l.code) text) l.code).0 h

-- the code, the characters of indices, the digits, and what follows
pub parts : (layouts : List Layout) (l : Layout) (text raw : List ℕ) → IsCoded layouts l text raw
    → text ≡ l.code ++ take l.index (drop (length l.code) text) ++ base64_text l.digits (whole_number raw) ++ drop (total l) text
parts layouts l text raw coded =
    sym (take-append-drop (total l) text)
    ∙ ap (λ front. front ++ drop (total l) text) (take-add (head l) l.digits text
    ∙ ap (λ front. front ++ take l.digits (drop (head l) text)) (take-add (length l.code) l.index text ∙ ap (λ code. code ++ take l.index (drop (length l.code) text)) (code_is l text coded.code))
    ∙ ap (λ digits. (l.code ++ take l.index (drop (length l.code) text)) ++ digits) (sym (drop-take (head l) l.digits text) ∙ coded.whole.digits))

-- the judgement of a text of which each is a character
pub judged_whole : (l : Layout) (text : List ℕ) (large other : Bool) → position (λ c. not (is_character c)) text ≡ None
    → nat_le (256 ^ l.bytes) (number_of_text (drop (head l) text)) ≡ large → has_other_index l text ≡ other
    → whole_verdict l text (position (λ c. not (is_character c)) text) ≡ (if large then bad PadBits else if other then bad OtherIndex else good (total l))
judged_whole l text large other none large_is other_is = rw (none, large_is, other_is) refl

-- the characters behind a head, with the raw bytes of their digits
module _ (l : Layout) (text raw : List ℕ) (h : ℕ) (h_is : h ≡ head l) (size : length raw ≡ l.bytes) where
  -- the digits' number has more bits
  pub pad_bits : IsDecoded text (drop h text) raw Large → whole_verdict l text (position (λ c. not (is_character c)) text) ≡ bad PadBits
  pad_bits large =
      judged_whole l text true (has_other_index l text) (no_failure is_character text large.0) (rw (← size, ← h_is) (le-leb (256 ^ length raw) (number_of_text (drop h text)) large.1)) refl

  module _ (decoded : IsDecoded text (drop h text) raw Whole) where
    same_value : whole_number raw ≡ number_of_text (drop (head l) text)
    same_value = decoded.2 ∙ ap (λ k. number_of_text (drop k text)) h_is

    same_bytes : AreBytes l.bytes raw
    same_bytes = (size, decoded.1.1)

    -- the bytes hold it
    pub judged_held : (other : Bool) → has_other_index l text ≡ other → whole_verdict l text (position (λ c. not (is_character c)) text) ≡ (if other then bad OtherIndex else good (total l))
    judged_held other other_is =
        judged_whole l text false other (no_failure is_character text decoded.0)
        (lt-leb (256 ^ l.bytes) (number_of_text (drop (head l) text)) (rw (← same_value) (bytes_low l.bytes raw same_bytes))) other_is

    pub whole_is : length text ≡ total l → has_other_index l text ≡ false → IsWhole l text raw
    whole_is len other = record {
      bytes = same_bytes;
      characters = decoded.0;
      digits =
          let count : length (drop (head l) text) ≡ l.digits = omega (arith, length-drop (head l) text) in
          sym (text-number (drop (head l) text) (characters-drop (head l) text decoded.0)) ∙ ap (λ k. base64_text k (number_of_text (drop (head l) text))) count ∙ ap (base64_text l.digits) (sym same_value);
      no_other = other;
    }

-- a spelling is good, whatever follows
pub spelled_good : (l : Layout) (front rest : List ℕ) → length front ≡ total l → list_all is_character front ≡ true → number_of_text (drop (head l) front) < 256 ^ l.bytes
    → has_other_index l front ≡ false → layout_verdict (Some l) (front ++ rest) ≡ good (total l)
spelled_good l front rest len all low none =
    let long : nat_lt (length (front ++ rest)) (total l) ≡ false = le-ltb _ _ (omega (arith, length-append front rest)) in
    rw (long, take_at front rest (total l) len) (judged_whole l front false false (no_failure is_character front all) (lt-leb _ _ low) none)

-- a code, characters of indices, and the digits of a number that the bytes hold
pub coded_good : (code indices : List ℕ) (k digits bytes n : ℕ) (rest : List ℕ) → length indices ≡ k → list_all is_character (code ++ indices) ≡ true → n < 256 ^ bytes → n < 64 ^ digits
    → has_other_index (layout code k digits bytes) (code ++ indices ++ base64_text digits n) ≡ false
    → layout_verdict (Some (layout code k digits bytes)) ((code ++ indices ++ base64_text digits n) ++ rest) ≡ good (length code + k + digits)
coded_good code indices k digits bytes n rest size all low fits other =
    let front : List ℕ = code ++ indices in
    let short : length front ≡ length code + k = omega (arith, length-append code indices, size) in
    let len : length (front ++ base64_text digits n) ≡ length code + k + digits = omega (arith, length-append front (base64_text digits n), length-base64_text digits n) in
    let behind : drop (length code + k) (front ++ base64_text digits n) ≡ base64_text digits n = drop_at front (base64_text digits n) (length code + k) short in
    let value : number_of_text (drop (length code + k) (front ++ base64_text digits n)) ≡ n = ap number_of_text behind ∙ number-text digits n fits in
    spelled_good (layout code k digits bytes) (front ++ base64_text digits n) rest len (characters-append front (base64_text digits n) all (characters-text digits n)) (rw value low) other

-- no layout says that the code isn't held
pub held : (l : Layout) (text : List ℕ) → layout_verdict (Some l) text ≢ bad CodeNotHeld
held l text e = sized (nat_lt (length text) (total l)) (take (total l) text) (position (λ c. not (is_character c)) (take (total l) text)) e
  where
    rules : (large other : Bool) → (if large then bad PadBits else if other then bad OtherIndex else good (total l)) ≢ bad CodeNotHeld
    rules true other e = cc e
    rules false true e = cc e
    rules false false e = cc e

    whole : (w : List ℕ) (place : Option ℕ) → whole_verdict l w place ≢ bad CodeNotHeld
    whole w (Some place) e = cc e
    whole w None e = rules (nat_le (256 ^ l.bytes) (number_of_text (drop (head l) w))) (has_other_index l w) e

    sized : (few : Bool) (w : List ℕ) (place : Option ℕ) → (if few then short else whole_verdict l w place) ≢ bad CodeNotHeld
    sized true w place e = cc e
    sized false w place e = whole w place e

no_refusal : (fault : CodeFault) (n : ℕ) → good n ≡ refusal fault → ⊥
no_refusal Short n e = cc e
no_refusal CodeNotHeld n e = cc e
no_refusal (BadCharacter place) n e = cc e
no_refusal PadBits n e = cc e
no_refusal OtherIndex n e = cc e

module _ {V : Type 0} (judge : List ℕ → Verdict) (spelling : V → List ℕ) (IsValue : V → Type 0)
    (same : (a b : V) (r s : List ℕ) → IsValue a → IsValue b → spelling a ++ r ≡ spelling b ++ s → (a ≡ b) × (r ≡ s))
    (judged : (v : V) (rest : List ℕ) → IsValue v → judge (spelling v ++ rest) ≡ good (length (spelling v))) where
  -- what is spelled at the front is read
  pub whole : (text : List ℕ) (result : Result (V × ℕ) CodeFault) (v : V) (rest : List ℕ) (count : ℕ) → Reads judge spelling IsValue text result → IsValue v → length (spelling v) ≡ count
      → text ≡ spelling v ++ rest → result ≡ Ok (v, count)
  whole text (Ok found) v rest count reads valid len e =
      let one = same found.0 v (drop found.1 text) rest reads.1.valid valid (sym reads.1.front ∙ e) in
      let counted : found.1 ≡ count = reads.1.counted ∙ ap (λ x. length (spelling x)) one.0 ∙ len in
      λ i. Ok (one.0 i, counted i)
  whole text (Err fault) v rest count reads valid len e = absurd (no_refusal fault (length (spelling v)) (sym (judged v rest valid) ∙ ap judge (sym e) ∙ reads))
