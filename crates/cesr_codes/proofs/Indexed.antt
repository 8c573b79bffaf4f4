-- Indexed signatures: what stands at the front, that it is good, and that it is the only one.
use Rattle.std.proofs.Common.{◌≡◌, ℕ, suc, ◌+◌, ◌*◌, ◌/◌, ◌%◌, ◌^◌, ◌<◌, ◌≤◌, ◌==◌, not, nat_lt, if◌then◌else◌, Bool, true, false, List, [], ◌∷◌, ◌++◌, length, take, drop, slice_index, codes, bytes_eq, refl, sym, ap, ◌∙◌, arith, append_assoc, append-nil, length-append, inl, inr, Some, None, Option, subst}
use Rattle.std.proofs.Math.Nat.{mod-eq_of_lt}
use Rattle.std.proofs.Math.Seq.{take-add, drop-cons}
use Rattle.std.proofs.lemmas.Bool.{cases_Bool, le-ltb, lt-ltb, ltb-true, eq-eqb, eqb-true}
use Rattle.std.proofs.lemmas.List.{take_at, drop_at, drop_all, drop-drop, drop-take, take-take, get_or-take, length-take-le}
use Rattle.std.proofs.lemmas.Slice.Eq.{bytes_eq-Decides}
use Rattle.std.proofs.Props.{props}
use Rattle.std.specs.List.{list_all}
use Rattle.lists.specs.KeriSpecs.Base64.{digits_in, whole_number, AreBytes, base64_text, character, digit_of, is_character, number_of_text}
use Rattle.cesr_codes.specs.declared.indexed_code.IndexedCode.{IndexedCode}
use Rattle.cesr_codes.specs.declared.indexed_code.IndexedCode.TheVariants.{Both, Current, BigBoth, BigCurrent}
use Rattle.cesr_codes.specs.declared.indexed_sig.IndexedSig.{IndexedSig}
use Rattle.cesr_codes.specs.declared.sig.Sig.{Sig}
use Rattle.cesr_codes.specs.Codes.{AreIndices, indexed_layout, is_big}
use Rattle.cesr_codes.specs.Indices.{has_form, indexed_code, index_text}
use Rattle.cesr_codes.specs.Indexed.{indexed_text, IsIndexed}
use Rattle.cesr_codes.specs.Reading.{IsAtFront, IsCoded, head}
use Rattle.cesr_codes.specs.Table.{layout, good, verdict, layout_verdict, has_other_index, total, indexed_layouts}
use Rattle.cesr_codes.proofs.Numbers.{bytes_low, character-digit, characters-text, characters-append, character_at, length-base64_text, number-text, same_bytes}
use Rattle.cesr_codes.proofs.Front.{parts, coded_good}

pub one_digit : (n : ℕ) → n < 64 → base64_text 1 n ≡ character n ∷ []
unfolding digits_in
one_digit n lt = rw (mod-eq_of_lt lt) refl

pub two_digits : (n : ℕ) → n < 4096 → base64_text 2 n ≡ character (n / 64) ∷ character (n % 64) ∷ []
unfolding digits_in
two_digits n lt = let low : n / 64 < 64 = omega arith in rw (mod-eq_of_lt low) refl

-- the spelling of indices and a number
abbrev plain : Bool → ℕ → Option ℕ → ℕ → List ℕ
plain big index ondex n = indexed_code big ondex ++ index_text big index ondex ++ base64_text 86 n

-- one character of a text, and two
module _ (text : List ℕ) (n : ℕ) (all : list_all is_character (take n text) ≡ true) (long : n ≤ length text) where
  symbol_at : (i : ℕ) → i < n → is_character (slice_index text i) ≡ true
  symbol_at i lt =
      let count : length (take n text) ≡ n = length-take-le n text long in
      ap is_character (sym (get_or-take n text i 0 lt)) ∙ character_at (take n text) i all (omega arith)

  one_at : (k index : ℕ) → k < n → index ≡ digit_of (slice_index text k) → (base64_text 1 index ≡ take 1 (drop k text)) × (index < 64)
  one_at k index lt is =
      let here = character-digit (slice_index text k) (symbol_at k lt) in
      let few : k < length text = omega arith in
      let low : index < 64 = omega (arith, is, here.1) in
      (one_digit index low ∙ ap (λ d. character d ∷ []) is ∙ ap (λ c. c ∷ []) here.0 ∙ sym (ap (take 1) (drop-cons text k 0 few)), low)

  two_at : (k index : ℕ) → k + 1 < n → index ≡ digit_of (slice_index text k) * 64 + digit_of (slice_index text (suc k)) → (base64_text 2 index ≡ take 2 (drop k text)) × (index < 4096)
  two_at k index lt is =
      let a = character-digit (slice_index text k) (symbol_at k (omega arith)) in
      let b = character-digit (slice_index text (suc k)) (symbol_at (suc k) (omega arith)) in
      let first : k < length text = omega arith in
      let second : suc k < length text = omega arith in
      let greater : index / 64 ≡ digit_of (slice_index text k) = omega (arith, is, a.1, b.1) in
      let lesser : index % 64 ≡ digit_of (slice_index text (suc k)) = omega (arith, is, a.1, b.1) in
      let low : index < 4096 = omega (arith, is, a.1, b.1) in (
        two_digits index low
            ∙ ap (λ d. character d ∷ character (index % 64) ∷ []) greater
            ∙ ap (λ d. character (digit_of (slice_index text k)) ∷ character d ∷ []) lesser
            ∙ ap (λ c. c ∷ character (digit_of (slice_index text (suc k))) ∷ []) a.0
            ∙ ap (λ c. slice_index text k ∷ c ∷ []) b.0
            ∙ sym (ap (take 2) (drop-cons text k 0 first) ∙ ap (λ xs. slice_index text k ∷ take 1 xs) (drop-cons text (suc k) 0 second)),
        low,
      )

  four_at : (k : ℕ) → take 4 (drop k text) ≡ take 2 (drop k text) ++ take 2 (drop (k + 2) text)
  four_at k = take-add 2 2 (drop k text) ∙ ap (λ xs. take 2 (drop k text) ++ take 2 xs) (drop-drop 2 k text)

-- no other index stands in place of `AA`
other_is : (text : List ℕ) → has_other_index (layout (codes "2B") 4 86 64) (take 92 text) ≡ false → take 2 (drop 4 text) ≡ codes "AA"
other_is text none = elim (cases_Bool (bytes_eq (take 2 (drop 4 (take 92 text))) (codes "AA"))) [
  | inl t ↦
      sym (ap (take 2) (drop-take 4 88 text) ∙ take-take 2 88 (drop 4 text) (omega arith)) ∙ (bytes_eq-Decides (take 2 (drop 4 (take 92 text))) (codes "AA")).0 t
  | inr f ↦ cc (rw f at none)
]

-- what stands at the front is the spelling of the indices that are read, and these are in form
pub indexed_front : (code : IndexedCode) (text raw : List ℕ) (index : ℕ) (ondex : Option ℕ) → IsCoded indexed_layouts (indexed_layout code) text raw → AreIndices code text index ondex
    → (text ≡ plain (is_big code) index ondex (whole_number raw) ++ drop (total (indexed_layout code)) text) × (has_form (is_big code) index ondex ≡ true)
indexed_front Both text raw index ondex coded indices =
    let one = one_at text 88 coded.whole.characters coded.enough 1 index (omega arith) indices.0 in
    let front = parts indexed_layouts (layout (codes "A") 1 86 64) text raw coded ∙ ap (λ x. (codes "A" ++ x ++ base64_text 86 (whole_number raw)) ++ drop 88 text) (sym one.0) in
    subst (λ o. (text ≡ plain false index o (whole_number raw) ++ drop 88 text) × (has_form false index o ≡ true)) (sym indices.1) (front, rw (lt-ltb index 64 one.1, eq-eqb index index refl) refl)
indexed_front Current text raw index ondex coded indices =
    let one = one_at text 88 coded.whole.characters coded.enough 1 index (omega arith) indices.0 in
    let front = parts indexed_layouts (layout (codes "B") 1 86 64) text raw coded ∙ ap (λ x. (codes "B" ++ x ++ base64_text 86 (whole_number raw)) ++ drop 88 text) (sym one.0) in
    subst (λ o. (text ≡ plain false index o (whole_number raw) ++ drop 88 text) × (has_form false index o ≡ true)) (sym indices.1) (front, lt-ltb index 64 one.1)
indexed_front BigBoth text raw index ondex coded indices =
    let other : ℕ = digit_of (slice_index text 4) * 64 + digit_of (slice_index text 5) in
    let two = two_at text 92 coded.whole.characters coded.enough 2 index (omega arith) indices.0 in
    let more = two_at text 92 coded.whole.characters coded.enough 4 other (omega arith) refl in
    let both : take 4 (drop 2 text) ≡ base64_text 2 index ++ base64_text 2 other
    = four_at text 92 coded.whole.characters coded.enough 2 ∙ ap (λ x. x ++ take 2 (drop 4 text)) (sym two.0) ∙ ap (λ x. base64_text 2 index ++ x) (sym more.0) in
    let front = parts indexed_layouts (layout (codes "2A") 4 86 64) text raw coded ∙ ap (λ x. (codes "2A" ++ x ++ base64_text 86 (whole_number raw)) ++ drop 92 text) both in
    subst (λ o. (text ≡ plain true index o (whole_number raw) ++ drop 92 text) × (has_form true index o ≡ true)) (sym indices.1) (front, rw (lt-ltb index 4096 two.1, lt-ltb other 4096 more.1) refl)
indexed_front BigCurrent text raw index ondex coded indices =
    let two = two_at text 92 coded.whole.characters coded.enough 2 index (omega arith) indices.0 in
    let both : take 4 (drop 2 text) ≡ base64_text 2 index ++ codes "AA"
    = four_at text 92 coded.whole.characters coded.enough 2 ∙ ap (λ x. x ++ take 2 (drop 4 text)) (sym two.0) ∙ ap (λ x. base64_text 2 index ++ x) (other_is text coded.whole.no_other) in
    let front = parts indexed_layouts (layout (codes "2B") 4 86 64) text raw coded ∙ ap (λ x. (codes "2B" ++ x ++ base64_text 86 (whole_number raw)) ++ drop 92 text) both in
    subst (λ o. (text ≡ plain true index o (whole_number raw) ++ drop 92 text) × (has_form true index o ≡ true)) (sym indices.1) (front, lt-ltb index 4096 two.1)

-- how long a spelling is
abbrev size : Bool → ℕ
size false = 88
size true = 92

length-plain : (big : Bool) (index : ℕ) (ondex : Option ℕ) (n : ℕ) → length (plain big index ondex n) ≡ size big
length-plain false index (Some ondex) n = omega (arith, length-append (base64_text 1 index) (base64_text 86 n), length-base64_text 1 index, length-base64_text 86 n)
length-plain false index None n = omega (arith, length-append (base64_text 1 index) (base64_text 86 n), length-base64_text 1 index, length-base64_text 86 n)
length-plain true index (Some ondex) n =
    omega (arith, length-append (base64_text 2 index ++ base64_text 2 ondex) (base64_text 86 n), length-append (base64_text 2 index) (base64_text 2 ondex), length-base64_text 2 index, length-base64_text 2 ondex, length-base64_text 86 n)
length-plain true index None n =
    omega (arith, length-append (base64_text 2 index ++ codes "AA") (base64_text 86 n), length-append (base64_text 2 index) (codes "AA"), length-base64_text 2 index, length-base64_text 86 n)

pub length-indexed_text : (s : IndexedSig) → length (indexed_text s) ≡ size s.big
length-indexed_text s = length-plain s.big s.index s.ondex (whole_number s.sig.raw)

code_size : (code : IndexedCode) → total (indexed_layout code) ≡ size (is_big code)
code_size Both = refl
code_size Current = refl
code_size BigBoth = refl
code_size BigCurrent = refl

pub stands_indexed : (code : IndexedCode) (text : List ℕ) (s : IndexedSig) (count : ℕ) → IsCoded indexed_layouts (indexed_layout code) text s.sig.raw → AreIndices code text s.index s.ondex → s.big ≡ is_big code
    → count ≡ total (indexed_layout code) → (verdict indexed_layouts text ≡ good count) × IsAtFront indexed_text IsIndexed text s count
stands_indexed code text s count coded indices big counted =
    let front = (indexed_front code text s.sig.raw s.index s.ondex coded indices).0 in (
      coded.judged ∙ ap good (sym counted),
      record {
        valid = bytes code s.sig.raw coded.whole.bytes;
        counted = counted ∙ code_size code ∙ ap size (sym big) ∙ sym (length-indexed_text s);
        enough = rw counted coded.enough;
        front = subst (λ b. text ≡ plain b s.index s.ondex (whole_number s.sig.raw) ++ drop count text) (sym big) (subst (λ k. text ≡ plain (is_big code) s.index s.ondex (whole_number s.sig.raw) ++ drop k text) (sym counted) front);
      },
    )
  where
    bytes : (code : IndexedCode) (raw : List ℕ) → AreBytes (indexed_layout code).bytes raw → AreBytes 64 raw
    bytes Both raw h = h
    bytes Current raw h = h
    bytes BigBoth raw h = h
    bytes BigCurrent raw h = h

-- a letter of a code and what follows it
judged_short : (xs : List ℕ) → 1 ≤ length xs
    → (verdict indexed_layouts (65 ∷ xs) ≡ layout_verdict (Some (layout (codes "A") 1 86 64)) (65 ∷ xs)) × (verdict indexed_layouts (66 ∷ xs) ≡ layout_verdict (Some (layout (codes "B") 1 86 64)) (66 ∷ xs))
judged_short xs some =
    (rw (le-ltb (length (65 ∷ xs)) 1 (omega arith), le-ltb (length (65 ∷ xs)) 2 (omega arith)) refl, rw (le-ltb (length (66 ∷ xs)) 1 (omega arith), le-ltb (length (66 ∷ xs)) 2 (omega arith)) refl)

judged_long : (xs : List ℕ)
    → (verdict indexed_layouts (50 ∷ 65 ∷ xs) ≡ layout_verdict (Some (layout (codes "2A") 4 86 64)) (50 ∷ 65 ∷ xs)) × (verdict indexed_layouts (50 ∷ 66 ∷ xs) ≡ layout_verdict (Some (layout (codes "2B") 4 86 64)) (50 ∷ 66 ∷ xs))
judged_long xs = (
  rw (le-ltb (length (50 ∷ 65 ∷ xs)) 1 (omega arith), le-ltb (length (50 ∷ 65 ∷ xs)) 2 (omega arith)) refl,
  rw (le-ltb (length (50 ∷ 66 ∷ xs)) 1 (omega arith), le-ltb (length (50 ∷ 66 ∷ xs)) 2 (omega arith)) refl,
)

some_text : (index n : ℕ) (rest : List ℕ) → 1 ≤ length ((base64_text 1 index ++ base64_text 86 n) ++ rest)
some_text index n rest =
    omega (arith, length-append (base64_text 1 index ++ base64_text 86 n) rest, length-append (base64_text 1 index) (base64_text 86 n), length-base64_text 1 index)

-- a spelling is good, whatever follows
good_plain : (big : Bool) (index : ℕ) (ondex : Option ℕ) (n : ℕ) (rest : List ℕ) → n < 256 ^ 64 → verdict indexed_layouts (plain big index ondex n ++ rest) ≡ good (size big)
good_plain false index (Some ondex) n rest low =
    (judged_short ((base64_text 1 index ++ base64_text 86 n) ++ rest) (some_text index n rest)).0
    ∙ coded_good (codes "A") (base64_text 1 index) 1 86 64 n rest (length-base64_text 1 index) (characters-text 1 index) low (omega arith) refl
good_plain false index None n rest low =
    (judged_short ((base64_text 1 index ++ base64_text 86 n) ++ rest) (some_text index n rest)).1
    ∙ coded_good (codes "B") (base64_text 1 index) 1 86 64 n rest (length-base64_text 1 index) (characters-text 1 index) low (omega arith) refl
good_plain true index (Some ondex) n rest low =
    let indices : List ℕ = base64_text 2 index ++ base64_text 2 ondex in
    let count : length indices ≡ 4 = omega (arith, length-append (base64_text 2 index) (base64_text 2 ondex), length-base64_text 2 index, length-base64_text 2 ondex) in
    let all : list_all is_character indices ≡ true = characters-append (base64_text 2 index) (base64_text 2 ondex) (characters-text 2 index) (characters-text 2 ondex) in
    (judged_long ((indices ++ base64_text 86 n) ++ rest)).0 ∙ coded_good (codes "2A") indices 4 86 64 n rest count all low (omega arith) refl
good_plain true index None n rest low =
    let indices : List ℕ = base64_text 2 index ++ codes "AA" in
    let count : length indices ≡ 4 = omega (arith, length-append (base64_text 2 index) (codes "AA"), length-base64_text 2 index) in
    let all : list_all is_character indices ≡ true = characters-append (base64_text 2 index) (codes "AA") (characters-text 2 index) refl in
    let behind : drop 2 (indices ++ base64_text 86 n) ≡ codes "AA" ++ base64_text 86 n
    = ap (drop 2) (append_assoc (base64_text 2 index) (codes "AA") (base64_text 86 n)) ∙ drop_at (base64_text 2 index) (codes "AA" ++ base64_text 86 n) 2 (length-base64_text 2 index) in
    let other : has_other_index (layout (codes "2B") 4 86 64) (codes "2B" ++ indices ++ base64_text 86 n) ≡ false = ap (λ xs. not (bytes_eq (take 2 xs) (codes "AA"))) behind in
    (judged_long ((indices ++ base64_text 86 n) ++ rest)).1 ∙ coded_good (codes "2B") indices 4 86 64 n rest count all low (omega arith) other

pub good_indexed : (s : IndexedSig) (rest : List ℕ) → IsIndexed s → verdict indexed_layouts (indexed_text s ++ rest) ≡ good (length (indexed_text s))
good_indexed s rest valid =
    good_plain s.big s.index s.ondex (whole_number s.sig.raw) rest (bytes_low 64 s.sig.raw valid) ∙ ap good (sym (length-indexed_text s))

-- the numbers of a form
form_low : (index : ℕ) (ondex : Option ℕ) → has_form false index ondex ≡ true → index < 64
form_low index None h = ltb-true index 64 h
form_low index (Some ondex) h = elim (cases_Bool (nat_lt index 64)) [ inl t ↦ ltb-true index 64 t | inr f ↦ cc (rw f at h) ]

form_same : (index ondex : ℕ) → has_form false index (Some ondex) ≡ true → ondex ≡ index
form_same index ondex h = elim (cases_Bool (nat_lt index 64)) [ inl t ↦ eqb-true ondex index (rw t at h) | inr f ↦ cc (rw f at h) ]

form_high : (index ondex : ℕ) → has_form true index (Some ondex) ≡ true → (index < 4096) × (ondex < 4096)
form_high index ondex h = elim (cases_Bool (nat_lt index 4096)) [
  | inl t ↦ (ltb-true index 4096 t, ltb-true ondex 4096 (rw t at h))
  | inr f ↦ cc (rw f at h)
]

-- the code and the indices that are written
pub small_head : (s : IndexedSig) (letter x : ℕ) (ondex : Option ℕ) → s.big ≡ false → s.ondex ≡ ondex → indexed_code false ondex ≡ letter ∷ [] → x ≡ character s.index
    → letter ∷ x ∷ [] ≡ indexed_code false s.ondex ++ base64_text 1 s.index
small_head s letter x ondex big is code_is e =
    let low : s.index < 64 = form_low s.index s.ondex (subst (λ b. has_form b s.index s.ondex ≡ true) big s.form) in
    ap (λ y. letter ∷ y ∷ []) e ∙ sym (ap (λ code. code ++ base64_text 1 s.index) (ap (indexed_code false) is ∙ code_is) ∙ ap (λ text. letter ∷ text) (one_digit s.index low))

pub big_head : (s : IndexedSig) (ondex : ℕ) (a b c d : ℕ) → s.big ≡ true → s.ondex ≡ Some ondex → a ≡ character (s.index / 64) → b ≡ character (s.index % 64)
    → c ≡ character (ondex / 64) → d ≡ character (ondex % 64) → 50 ∷ 65 ∷ a ∷ b ∷ c ∷ d ∷ [] ≡ indexed_code true s.ondex ++ index_text true s.index s.ondex
big_head s ondex a b c d big is ea eb ec ed =
    let low = form_high s.index ondex (subst (λ o. has_form true s.index o ≡ true) is (subst (λ b. has_form b s.index s.ondex ≡ true) big s.form)) in
    rw (is, two_digits s.index low.0, two_digits ondex low.1, ea, eb, ec, ed) refl

pub big_head_alone : (s : IndexedSig) (a b : ℕ) → s.big ≡ true → s.ondex ≡ None → a ≡ character (s.index / 64) → b ≡ character (s.index % 64)
    → 50 ∷ 66 ∷ a ∷ b ∷ 65 ∷ 65 ∷ [] ≡ indexed_code true s.ondex ++ index_text true s.index s.ondex
big_head_alone s a b big is ea eb =
    let low : s.index < 4096 = ltb-true s.index 4096 (subst (λ o. has_form true s.index o ≡ true) is (subst (λ b. has_form b s.index s.ondex ≡ true) big s.form)) in
    rw (is, two_digits s.index low, ea, eb) refl

-- what is written of a big one is all of the array
pub written_big : (s : IndexedSig) (head out old : List ℕ) → s.big ≡ true → head ≡ indexed_code true s.ondex ++ index_text true s.index s.ondex → out ≡ head ++ base64_text 86 (whole_number s.sig.raw)
    → length old ≡ 92 → out ≡ indexed_text s ++ drop 92 old
written_big s head out old big head_is out_is len =
    out_is
    ∙ ap (λ h. h ++ base64_text 86 (whole_number s.sig.raw)) head_is
    ∙ ap (λ b. plain b s.index s.ondex (whole_number s.sig.raw)) (sym big)
    ∙ sym (append-nil (indexed_text s))
    ∙ ap (λ rest. indexed_text s ++ rest) (sym (drop_all 92 old (omega (arith, len))))

-- what a text is a spelling of
abbrev parsed_big : List ℕ → Bool × ℕ × Option ℕ × ℕ × List ℕ
parsed_big text =
    (true, number_of_text (take 2 (drop 2 text)), if slice_index text 1 == 65 then Some (number_of_text (take 2 (drop 4 text))) else None, number_of_text (take 86 (drop 6 text)), drop 92 text)

abbrev parsed_small : List ℕ → Bool × ℕ × Option ℕ × ℕ × List ℕ
parsed_small text =
    (false, number_of_text (take 1 (drop 1 text)), if slice_index text 0 == 65 then Some (number_of_text (take 1 (drop 1 text))) else None, number_of_text (take 86 (drop 2 text)), drop 88 text)

abbrev parsed : List ℕ → Bool × ℕ × Option ℕ × ℕ × List ℕ
parsed text = if slice_index text 0 == 50 then parsed_big text else parsed_small text

-- three texts, one behind the other
three : (a b rest : List ℕ) (m k : ℕ) → length a ≡ m → length b ≡ k → (take m ((a ++ b) ++ rest) ≡ a) × (take k (drop m ((a ++ b) ++ rest)) ≡ b) × (drop (m + k) ((a ++ b) ++ rest) ≡ rest)
three a b rest m k la lb =
    let all : (a ++ b) ++ rest ≡ a ++ (b ++ rest) = append_assoc a b rest in (
      ap (take m) all ∙ take_at a (b ++ rest) m la,
      ap (take k) (ap (drop m) all ∙ drop_at a (b ++ rest) m la) ∙ take_at b rest k lb,
      drop_at (a ++ b) rest (m + k) (omega (arith, length-append a b, la, lb)),
    )

parsed-plain : (big : Bool) (index : ℕ) (ondex : Option ℕ) (n : ℕ) (rest : List ℕ) → has_form big index ondex ≡ true → n < 64 ^ 86 → parsed (plain big index ondex n ++ rest) ≡ (big, index, ondex, n, rest)
parsed-plain false index (Some ondex) n rest form low =
    let t = three (base64_text 1 index) (base64_text 86 n) rest 1 86 (length-base64_text 1 index) (length-base64_text 86 n) in
    let i : number_of_text (base64_text 1 index) ≡ index = number-text 1 index (form_low index (Some ondex) form) in
    rw (t.0, t.1, t.2, i, number-text 86 n low, form_same index ondex form) refl
parsed-plain false index None n rest form low =
    let t = three (base64_text 1 index) (base64_text 86 n) rest 1 86 (length-base64_text 1 index) (length-base64_text 86 n) in
    let i : number_of_text (base64_text 1 index) ≡ index = number-text 1 index (form_low index None form) in
    rw (t.0, t.1, t.2, i, number-text 86 n low) refl
parsed-plain true index (Some ondex) n rest form low =
    let indices : List ℕ = base64_text 2 index ++ base64_text 2 ondex in
    let count : length indices ≡ 4 = omega (arith, length-append (base64_text 2 index) (base64_text 2 ondex), length-base64_text 2 index, length-base64_text 2 ondex) in
    let t = three indices (base64_text 86 n) rest 4 86 count (length-base64_text 86 n) in
    let u = three (base64_text 2 index) (base64_text 2 ondex) (base64_text 86 n ++ rest) 2 2 (length-base64_text 2 index) (length-base64_text 2 ondex) in
    let all : (indices ++ base64_text 86 n) ++ rest ≡ indices ++ (base64_text 86 n ++ rest) = append_assoc indices (base64_text 86 n) rest in
    let high = form_high index ondex form in
    let i : number_of_text (take 2 ((indices ++ base64_text 86 n) ++ rest)) ≡ index = ap (λ xs. number_of_text (take 2 xs)) all ∙ ap number_of_text u.0 ∙ number-text 2 index high.0 in
    let o : number_of_text (take 2 (drop 2 ((indices ++ base64_text 86 n) ++ rest))) ≡ ondex = ap (λ xs. number_of_text (take 2 (drop 2 xs))) all ∙ ap number_of_text u.1 ∙ number-text 2 ondex high.1 in
    rw (i, o, t.1, t.2, number-text 86 n low) refl
parsed-plain true index None n rest form low =
    let indices : List ℕ = base64_text 2 index ++ codes "AA" in
    let count : length indices ≡ 4 = omega (arith, length-append (base64_text 2 index) (codes "AA"), length-base64_text 2 index) in
    let t = three indices (base64_text 86 n) rest 4 86 count (length-base64_text 86 n) in
    let u = three (base64_text 2 index) (codes "AA") (base64_text 86 n ++ rest) 2 2 (length-base64_text 2 index) refl in
    let all : (indices ++ base64_text 86 n) ++ rest ≡ indices ++ (base64_text 86 n ++ rest) = append_assoc indices (base64_text 86 n) rest in
    let i : number_of_text (take 2 ((indices ++ base64_text 86 n) ++ rest)) ≡ index = ap (λ xs. number_of_text (take 2 xs)) all ∙ ap number_of_text u.0 ∙ number-text 2 index (ltb-true index 4096 form) in
    rw (i, t.1, t.2, number-text 86 n low) refl

-- one with the same parts is the same
made : (p : Bool × ℕ × Option ℕ × Sig) → has_form p.0 p.1 p.2 ≡ true → IndexedSig
made p form = record { big = p.0; index = p.1; ondex = p.2; sig = p.3; form = form }

one_proof : (b : Bool) → IsProp (b ≡ true)
one_proof b = hlevel props

same_made : (p q : Bool × ℕ × Option ℕ × Sig) (f : has_form p.0 p.1 p.2 ≡ true) (g : has_form q.0 q.1 q.2 ≡ true) → p ≡ q → made p f ≡ made q g
same_made p q f g e = subst (λ (x : Bool × ℕ × Option ℕ × Sig). (h : has_form x.0 x.1 x.2 ≡ true) → made p f ≡ made x h) e (λ h. ap (made p) (one_proof (has_form p.0 p.1 p.2) f h)) g

pub same_indexed : (a b : IndexedSig) (r s : List ℕ) → IsIndexed a → IsIndexed b → indexed_text a ++ r ≡ indexed_text b ++ s → (a ≡ b) × (r ≡ s)
unfolding made
same_indexed a b r s ia ib e =
    let one = parsed-plain a.big a.index a.ondex (whole_number a.sig.raw) r a.form (omega (arith, bytes_low 64 a.sig.raw ia)) in
    let two = parsed-plain b.big b.index b.ondex (whole_number b.sig.raw) s b.form (omega (arith, bytes_low 64 b.sig.raw ib)) in
    let both : (a.big, a.index, a.ondex, whole_number a.sig.raw, r) ≡ (b.big, b.index, b.ondex, whole_number b.sig.raw, s) = sym one ∙ ap parsed e ∙ two in
    let raw : a.sig.raw ≡ b.sig.raw = same_bytes 64 a.sig.raw b.sig.raw ia ib (ap (λ (p : Bool × ℕ × Option ℕ × ℕ × List ℕ). p.3) both) in
    let parts : (a.big, a.index, a.ondex, a.sig) ≡ (b.big, b.index, b.ondex, b.sig) = λ i. ((both i).0, (both i).1, (both i).2, record { raw = raw i }) in
    (same_made (a.big, a.index, a.ondex, a.sig) (b.big, b.index, b.ondex, b.sig) a.form b.form parts, ap (λ (p : Bool × ℕ × Option ℕ × ℕ × List ℕ). p.4) both)
