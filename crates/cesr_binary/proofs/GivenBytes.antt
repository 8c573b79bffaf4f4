-- A reader of texts that was given the characters of the first bytes says how these are judged.
use Rattle.std.proofs.Common.{◌≡◌, ◌≢◌, ℕ, zero, suc, ◌+◌, ◌*◌, ◌/◌, ◌%◌, ◌<◌, ◌≤◌, Bool, true, false, if◌then◌else◌, List, [], ◌∷◌, ◌++◌, length}
use Rattle.std.proofs.Common.{take, drop, slice_index, refl, sym, ap, ◌∙◌, arith, inl, inr, append-nil, length-take, length-drop, subst, None}
use Rattle.std.proofs.lemmas.Bool.{cases_Bool}
use Rattle.std.proofs.lemmas.List.{take_at, take-append-drop, take-append-le}
use Rattle.std.proofs.Math.Seq.{take-add}
use Rattle.std.specs.List.{list_all}
use Rattle.std.specs.declared.result.Result.{Result}
use Rattle.std.specs.declared.result.Result.TheVariants.{Ok, Err}
use Rattle.lists.specs.KeriSpecs.Base64.{base64_text, is_character, whole_number}
use Rattle.cesr_codes.proofs.Numbers.{characters-append, characters-text, character_at}
use Rattle.cesr_stream.specs.declared.bad.BadReason.{BadReason}
use Rattle.cesr_stream.specs.declared.item.Item.{Item}
use Rattle.cesr_stream.specs.declared.item.Item.TheVariants.{Body, Group as GroupItem, Wrapped}
use Rattle.cesr_stream.specs.declared.step.Step.{Step}
use Rattle.cesr_stream.specs.declared.step.Step.TheVariants.{Item as ItemStep, NeedMore, Bad as BadStep}
use Rattle.cesr_stream.specs.Front.{front}
use Rattle.cesr_stream.specs.Parts.{Part, whole, refused, unfinished}
use Rattle.cesr_stream.specs.Reading.{Reading, fed_with}
use Rattle.cesr_binary.specs.declared.either_reader.EitherReader.{EitherReader}
use Rattle.cesr_stream.specs.Written.{IsWritable}
use Rattle.cesr_stream.specs.Texts.{group_text, wrap_text, SpellsItem}
use Rattle.cesr_binary.specs.BinaryDomain.{text_of, in_bytes, is_binary}
use Rattle.cesr_stream.specs.Domains.{IsTurnable}
use Rattle.cesr_binary.specs.Mixed.{in_binary, mixed_front, text_in_either, SpellsEither}
use Rattle.cesr_binary.specs.GivenBytes.{AreGiven, IsGiven, GoesOn, in_either, either_place, turnable, JudgesFront, WhereOpen}
use Rattle.cesr_stream.proofs.Characters.{turnable_group, turnable_wrap, group_dash, wrap_dash}
use Rattle.cesr_binary.proofs.BinaryDomain.{text_of-append, length-text_of}
use Rattle.cesr_binary.proofs.MixedFronts.{stays-mixed_front}
use Rattle.cesr_binary.proofs.Wires.{mixed_binary, mixed_text, in_either_of, in_text_of}

pub text_characters : (x : List ℕ) → list_all is_character (text_of x) ≡ true
unfolding text_of
text_characters [] = refl
text_characters (a ∷ []) = refl
text_characters (a ∷ b ∷ []) = refl
text_characters (a ∷ b ∷ c ∷ x) = characters-append (base64_text 4 (whole_number (a ∷ b ∷ c ∷ []))) (text_of x)
    (characters-text 4 (whole_number (a ∷ b ∷ c ∷ []))) (text_characters x)

-- characters in fours at the front are those of the bytes at the front
pub take_text : (x : List ℕ) (m : ℕ) → m % 4 ≡ 0 → m ≤ length (text_of x) → text_of (take (in_bytes m) x) ≡ take m (text_of x)
take_text x m fours le =
    let k : ℕ = in_bytes m in
    let long : length (take k x) ≡ k = omega (arith, length-take k x, length-text_of x, le) in
    let apart : text_of x ≡ text_of (take k x) ++ text_of (drop k x)
    = ap text_of (sym (take-append-drop k x)) ∙ text_of-append (take k x) (drop k x) (m / 4) (omega (arith, long)) in
    sym (ap (take m) apart ∙ take_at (text_of (take k x)) (text_of (drop k x)) m (omega (arith, length-text_of (take k x), long, fours)))

pub either_front : (limit : ℕ) (begun : Bool) (x : List ℕ) → mixed_front limit begun x ≡ in_either x (front limit begun (text_in_either x))
either_front limit begun x = elim (cases_Bool (is_binary (slice_index x 0))) [
  | inl t ↦ mixed_binary limit begun x t ∙ sym (rw t (ap (λ text. in_binary (front limit begun text)) (in_either_of x t)))
  | inr f ↦ mixed_text limit begun x f ∙ sym (rw f (ap (front limit begun) (in_text_of x f)))
]

pub first_kept : (x : List ℕ) (n : ℕ) → 1 ≤ n → slice_index (take n x) 0 ≡ slice_index x 0
first_kept x zero le = absurd (omega (arith, le))
first_kept [] (suc n) le = refl
first_kept (b ∷ x) (suc n) le = refl

-- what is known of an item that is spelled by so many characters
record IsSized (text : List ℕ) (m : ℕ) : Type 0 where
  some : 1 ≤ m
  fours : list_all is_character text ≡ true → m % 4 ≡ 0

sized_by : (text spelling : List ℕ) (m : ℕ) → m ≤ length text → take m text ≡ spelling → IsTurnable spelling → 4 ≤ length spelling → IsSized text m
sized_by text spelling m le e turnable some =
    let long : m ≡ length spelling = omega (arith, length-take m text, le, ap length e) in
    record { some = omega (arith, long, some); fours = λ all. let fours = turnable.fours in omega (arith, long, fours) }

sized : (text : List ℕ) (m : ℕ) (item : Item) → m ≤ length text → SpellsItem (take m text) item → IsSized text m
sized text zero (Body bytes) le spelled = cc spelled.1
sized [] (suc m) (Body bytes) le spelled = absurd (omega (arith, le))
sized (b ∷ text) (suc m) (Body bytes) le spelled = record {
  some = omega arith;
  fours = λ all. cc (sym (character_at (b ∷ text) 0 all (omega arith)) ∙ ap is_character spelled.1);
}
sized text m (GroupItem g) le spelled = sized_by text (group_text g) m le spelled (turnable_group g) (group_dash g).1
sized text m (Wrapped gs) le spelled = sized_by text (wrap_text gs) m le spelled (turnable_wrap gs) (wrap_dash gs).1

-- an item that stands in the characters stands in the bytes
pub either_item : (limit : ℕ) (begun : Bool) (x : List ℕ) (m : ℕ) (item : Item) → front limit begun (text_in_either x) ≡ whole m
    → SpellsItem (take m (text_in_either x)) item
    → m ≤ length (text_in_either x)
    → (mixed_front limit begun x ≡ whole (either_place x m)) × SpellsEither (take (either_place x m) x) item × (either_place x m ≤ length x)
either_item limit begun x m item is spelled le = elim (cases_Bool (is_binary (slice_index x 0))) [
  | inl t ↦
      let text : text_in_either x ≡ text_of x = in_either_of x t in
      let short : m ≤ length (text_of x) = omega (arith, le, ap length text) in
      let size = sized (text_of x) m item short (subst (λ y. SpellsItem (take m y) item) text spelled) in
      let fours : m % 4 ≡ 0 = size.fours (text_characters x) in
      let some : 1 ≤ in_bytes m = let s = size.some in omega (arith, s, fours) in
      let first : is_binary (slice_index (take (in_bytes m) x) 0) ≡ true = ap is_binary (first_kept x (in_bytes m) some) ∙ t in
      let same : text_in_either (take (in_bytes m) x) ≡ take m (text_in_either x) = in_either_of (take (in_bytes m) x) first
      ∙ take_text x m fours short ∙ ap (take m) (sym text) in
      rw t ((
        mixed_binary limit begun x t ∙ ap (λ y. in_binary (front limit begun y)) (sym text) ∙ ap in_binary is,
        subst (λ y. SpellsItem y item)
            (sym same) spelled,
        omega (arith, short, length-text_of x),
      ))
  | inr f ↦
      let text : text_in_either x ≡ x = in_text_of x f in
      let short : m ≤ length x = omega (arith, le, ap length text) in
      let size = sized x m item short (subst (λ y. SpellsItem (take m y) item) text spelled) in
      let first : is_binary (slice_index (take m x) 0) ≡ false = ap is_binary (first_kept x m size.some) ∙ f in
      let same : text_in_either (take m x) ≡ take m (text_in_either x) = in_text_of (take m x) first ∙ ap (take m) (sym text) in
      rw f ((mixed_text limit begun x f ∙ ap (front limit begun) (sym text) ∙ is, subst (λ y. SpellsItem y item) (sym same) spelled, short))
]

-- once all that can be turned are turned, they are judged as all bytes are
pub all_turned : (limit : ℕ) (begun : Bool) (x : List ℕ) → mixed_front limit begun (take (turnable x) x) ≡ unfinished → mixed_front limit begun x ≡ unfinished
unfolding front text_of
all_turned limit begun x e = elim (cases_Bool (is_binary (slice_index x 0))) [
  | inl t ↦ at (length x / 3) refl t (rw t at e)
  | inr f ↦ ap (mixed_front limit begun) (sym (whole_list x)) ∙ (rw f at e)
]
  where
    whole_list : (x : List ℕ) → take (length x) x ≡ x
    whole_list [] = refl
    whole_list (b ∷ x) = ap (λ y. b ∷ y) (whole_list x)

    few : (x : List ℕ) → length x < 3 → text_of x ≡ []
    few [] lt = refl
    few (a ∷ []) lt = refl
    few (a ∷ b ∷ []) lt = refl
    few (a ∷ b ∷ c ∷ x) lt = absurd (omega (arith, lt))

    at : (q : ℕ) → q ≡ length x / 3 → is_binary (slice_index x 0) ≡ true → mixed_front limit begun (take (3 * (length x / 3)) x) ≡ unfinished
        → mixed_front limit begun x ≡ unfinished
    at zero is t e = mixed_binary limit begun x t ∙ ap (λ y. in_binary (front limit begun y)) (few x (omega (arith, is)))
    at (suc q) is t e =
        let k : ℕ = 3 * (length x / 3) in
        let first : is_binary (slice_index (take k x) 0) ≡ true = ap is_binary (first_kept x k (omega (arith, is))) ∙ t in
        let long : length (take k x) ≡ k = omega (arith, length-take k x) in
        let none : text_of (drop k x) ≡ [] = few (drop k x) (omega (arith, length-drop k x)) in
        let same : text_of x ≡ text_of (take k x)
        = ap text_of (sym (take-append-drop k x)) ∙ text_of-append (take k x) (drop k x) (length x / 3) long ∙ ap (λ y. text_of (take k x) ++ y) none
        ∙ append-nil (text_of (take k x)) in
        mixed_binary limit begun x t ∙ ap (λ y. in_binary (front limit begun y)) same ∙ sym (mixed_binary limit begun (take k x) first) ∙ e

-- more bytes are turned
pub more_turned : (x : List ℕ) (turned k : ℕ) (text : List ℕ) → is_binary (slice_index x 0) ≡ true → AreGiven x turned text → k % 3 ≡ 0 → turned + k ≤ length x
    → AreGiven x (turned + k) (text ++ text_of (take k (drop turned x)))
unfolding text_of
more_turned x turned k text t are threes le = record {
  within = le;
  threes = λ _. let was = are.threes t in omega (arith, was, threes);
  spelled = let was = are.threes t in ap (λ y. y ++ text_of (take k (drop turned x))) are.spelled ∙ at (turned / 3) refl was;
}
  where
    at : (q : ℕ) → q ≡ turned / 3 → turned % 3 ≡ 0 → text_in_either (take turned x) ++ text_of (take k (drop turned x)) ≡ text_in_either (take (turned + k) x)
    at zero is was = none turned (turned + k) (omega (arith, is, was)) refl
      where
        front_of : (m : ℕ) → text_in_either [] ++ text_of (take m x) ≡ text_in_either (take m x)
        front_of zero = ap (λ y. y ++ []) (in_text_of [] refl) ∙ sym (in_text_of [] refl)
        front_of (suc m) = ap (λ y. y ++ text_of (take (suc m) x)) (in_text_of [] refl) ∙ sym
            (in_either_of (take (suc m) x) (ap is_binary (first_kept x (suc m) (omega arith)) ∙ t))

        none : (n m : ℕ) → n ≡ 0 → m ≡ n + k → text_in_either (take n x) ++ text_of (take k (drop n x)) ≡ text_in_either (take m x)
        none zero m e f = let same : m ≡ k = omega (arith, f) in front_of k ∙ ap (λ i. text_in_either (take i x)) (sym same)
        none (suc n) m e f = absurd (omega (arith, e))
    at (suc q) is was =
        let first : (n : ℕ) → 1 ≤ n → is_binary (slice_index (take n x) 0) ≡ true = λ n some. ap is_binary (first_kept x n some) ∙ t in
        let long : length (take turned x) ≡ turned = omega (arith, length-take turned x, le) in
        ap (λ y. y ++ text_of (take k (drop turned x))) (in_either_of (take turned x) (first turned (omega (arith, is))))
        ∙ sym (text_of-append (take turned x) (take k (drop turned x)) (turned / 3) (omega (arith, long, was)))
        ∙ ap text_of (sym (take-add turned k x))
        ∙ sym (in_either_of (take (turned + k) x) (first (turned + k) (omega (arith, is))))

pub more_copied : (x : List ℕ) (turned k : ℕ) (text : List ℕ) → is_binary (slice_index x 0) ≡ false → AreGiven x turned text → turned + k ≤ length x
    → AreGiven x (turned + k) (text ++ take k (drop turned x))
more_copied x turned k text f are le = record {
  within = le;
  threes = λ t. cc (sym t ∙ f);
  spelled = ap (λ y. y ++ take k (drop turned x)) (are.spelled ∙ as_is turned) ∙ sym (take-add turned k x) ∙ sym (as_is (turned + k));
}
  where
    as_is : (n : ℕ) → text_in_either (take n x) ≡ take n x
    as_is zero = in_text_of [] refl
    as_is (suc n) = in_text_of (take (suc n) x) (ap is_binary (first_kept x (suc n) (omega arith)) ∙ f)

-- what was given is all that can be
pub count_all : (x : List ℕ) (count : ℕ) (text : List ℕ) → AreGiven x count text → turnable x ≤ count → count ≡ turnable x
count_all x count text are le = elim (cases_Bool (is_binary (slice_index x 0))) [
  | inl t ↦ let within = are.within in let threes = are.threes t in rw t (omega (arith, within, threes, rw t at le))
  | inr f ↦ let within = are.within in rw f (omega (arith, within, rw f at le))
]

-- what the reader of texts says, as a judgement of the bytes that it was given
module _ (limit : ℕ) (begun : Bool) (x : List ℕ) (count : ℕ) (text : List ℕ) (are : AreGiven x count text) where
  front_is : (part : Part) → front limit begun text ≡ part → front limit begun (text_in_either (take count x)) ≡ part
  front_is part is = ap (front limit begun) (sym are.spelled) ∙ is

  pub given_more : front limit begun text ≡ unfinished → mixed_front limit begun (take count x) ≡ unfinished
  given_more is = either_front limit begun (take count x) ∙ ap (in_either (take count x)) (front_is unfinished is) ∙ none
      (is_binary (slice_index (take count x) 0))
    where
      none : (binary : Bool) → (if binary then in_binary unfinished else unfinished) ≡ unfinished
      none true = refl
      none false = refl

  -- something was given
  some_given : 1 ≤ length text → is_binary (slice_index (take count x) 0) ≡ is_binary (slice_index x 0)
  some_given le = ap is_binary (first_kept x count (at count refl))
    where
      at : (n : ℕ) → n ≡ count → 1 ≤ count
      at zero e = let none : text ≡ [] = are.spelled ∙ ap (λ i. text_in_either (take i x)) (sym e) ∙ in_text_of [] refl in absurd
          (omega (arith, le, ap length none))
      at (suc n) e = omega (arith, e)

  length_given : length (take count x) ≡ count
  length_given = let within = are.within in omega (arith, within, length-take count x)

  pub given_item : (n : ℕ) (item : Item) → front limit begun text ≡ whole n → SpellsItem (take n text) item → n ≤ length text → IsWritable item
      → (mixed_front limit begun (take count x) ≡ whole (either_place x n)) × SpellsEither (take (either_place x n) (take count x)) item ×
      (either_place x n ≤ length (take count x)) × IsWritable item
  given_item n item is spelled le writable =
      let some = (sized text n item le spelled).some in
      let first = some_given (omega (arith, some, le)) in
      let place : either_place (take count x) n ≡ either_place x n = ap (λ b. if b then in_bytes n else n) first in
      let there = either_item limit begun (take count x) n item (front_is (whole n) is) (subst (λ y. SpellsItem (take n y) item) are.spelled spelled)
      (omega (arith, le, ap length are.spelled)) in
      subst (λ p. (mixed_front limit begun (take count x) ≡ whole p) × SpellsEither (take p (take count x)) item ×
      (p ≤ length (take count x)) × IsWritable item) place
      (there.0, there.1, there.2, writable)

  judged_some : (y : List ℕ) (part : Part) → front limit begun y ≡ part → part ≢ unfinished → 1 ≤ length y
  unfolding front
  judged_some [] part e ne = absurd (ne (sym e))
  judged_some (b ∷ y) part e ne = omega arith

  -- the characters are a third more than the bytes at most
  pub given_length : 3 * length text ≤ 4 * count
  given_length = elim (cases_Bool (is_binary (slice_index (take count x) 0))) [
    | inl t ↦ omega (arith, ap length (are.spelled ∙ in_either_of (take count x) t), length-text_of (take count x), length_given)
    | inr f ↦ omega (arith, ap length (are.spelled ∙ in_text_of (take count x) f), length_given)
  ]

  pub given_bad : (n : ℕ) (reason : BadReason) → front limit begun text ≡ refused n reason → n ≤ length text
      → (mixed_front limit begun (take count x) ≡ refused (either_place x n) reason) × (either_place x n ≤ length (take count x))
  given_bad n reason is le = elim (cases_Bool (is_binary (slice_index x 0))) [
    | inl t ↦
        let here : is_binary (slice_index (take count x) 0) ≡ true = some_given some ∙ t in
        let long : length text ≡ 4 * (length (take count x) / 3) = ap length (are.spelled ∙ in_either_of (take count x) here) ∙ length-text_of (take count x) in
        rw t ((judged ∙ rw here refl, omega (arith, le, long)))
    | inr f ↦
        let here : is_binary (slice_index (take count x) 0) ≡ false = some_given some ∙ f in
        let long : length text ≡ length (take count x) = ap length (are.spelled ∙ in_text_of (take count x) here) in
        rw f ((judged ∙ rw here refl, omega (arith, le, long)))
  ]
    where
      judged : mixed_front limit begun (take count x) ≡ in_either (take count x) (refused n reason)
      judged = either_front limit begun (take count x) ∙ ap (in_either (take count x)) (front_is (refused n reason) is)

      some : 1 ≤ length text
      some = judged_some text (refused n reason) is (λ e. cc e)

-- a judgement of the bytes that were given is one of all of them, unless more are needed
pub judged_all : {E : Type 0} (limit : ℕ) (begun : Bool) (x : List ℕ) (count : ℕ) (result : Result Step E)
    → JudgesFront limit begun (take count x) result → WhereOpen result ⊥ → JudgesFront limit begun x result
judged_all limit begun x count (Ok (ItemStep item n)) judged closed =
    let same : x ≡ take count x ++ drop count x = sym (take-append-drop count x) in
    let is : mixed_front limit begun x ≡ whole n = ap (mixed_front limit begun) same ∙ stays-mixed_front limit begun (take count x) (drop count x)
    (λ e. cc (e, judged.0)) ∙ judged.0 in
    let front : take n x ≡ take n (take count x) = ap (take n) same ∙ take-append-le n (take count x) (drop count x) judged.2 in
    (is, subst (λ y. SpellsEither y item) (sym front) judged.1, (let le = judged.2 in omega (arith, le, length-take count x)), judged.3)
judged_all limit begun x count (Ok NeedMore) judged closed = absurd closed
judged_all limit begun x count (Ok (BadStep bad)) judged closed =
    let same : x ≡ take count x ++ drop count x = sym (take-append-drop count x) in (
      ap (mixed_front limit begun) same ∙ stays-mixed_front limit begun (take count x) (drop count x) (λ e. cc (e, judged.0))
          ∙ judged.0,
      let le = judged.1 in omega (arith, le, length-take count x),
    )
judged_all limit begun x count (Err e) judged closed = tt

-- where all was given that can be, it is one of all bytes
pub judged_last : {E : Type 0} (limit : ℕ) (begun : Bool) (x : List ℕ) (count : ℕ) (result : Result Step E) → count ≡ turnable x
    → JudgesFront limit begun (take count x) result → JudgesFront limit begun x result
judged_last {E = E} limit begun x count (Ok (ItemStep item n)) all judged = judged_all {E = E} limit begun x count (Ok (ItemStep item n)) judged tt
judged_last limit begun x count (Ok NeedMore) all judged = all_turned limit begun x (ap (λ k. mixed_front limit begun (take k x)) (sym all) ∙ judged)
judged_last {E = E} limit begun x count (Ok (BadStep bad)) all judged = judged_all {E = E} limit begun x count (Ok (BadStep bad)) judged tt
judged_last limit begun x count (Err e) all judged = tt

-- the reader of texts goes on with more characters
pub goes_binary : (x : List ℕ) (old : EitherReader) (k : ℕ) (new : Reading) (piece : List ℕ) → is_binary (slice_index x 0) ≡ true → IsGiven x old
    → k % 3 ≡ 0 → old.given + k ≤ length x
    → piece ≡ text_of (take k (drop old.given x)) → new ≡ fed_with old.text piece old.text.bad → GoesOn x old (record { text = new; given = old.given + k })
goes_binary x old k new piece t given threes le is fed =
    let now : new ≡ fed_with old.text piece None = fed ∙ ap (fed_with old.text piece) given.not_bad in
    record {
      is_given = record {
        from = ap (λ r. r.place) now ∙ given.from;
        not_bad = ap (λ r. r.bad) now ∙ given.not_bad;
        given = subst (AreGiven x (old.given + k)) (sym (ap (λ r. r.rest) now ∙ ap (λ y. old.text.rest ++ y) is))
            (more_turned x old.given k old.text.rest t given.given threes le);
      };
      begun = ap (λ r. r.begun) now;
      further = omega arith;
    }

pub goes_text : (x : List ℕ) (old : EitherReader) (k : ℕ) (new : Reading) (piece : List ℕ) → is_binary (slice_index x 0) ≡ false → IsGiven x old
    → old.given + k ≤ length x
    → piece ≡ take k (drop old.given x) → new ≡ fed_with old.text piece old.text.bad → GoesOn x old (record { text = new; given = old.given + k })
goes_text x old k new piece f given le is fed =
    let now : new ≡ fed_with old.text piece None = fed ∙ ap (fed_with old.text piece) given.not_bad in
    record {
      is_given = record {
        from = ap (λ r. r.place) now ∙ given.from;
        not_bad = ap (λ r. r.bad) now ∙ given.not_bad;
        given = subst (AreGiven x (old.given + k)) (sym (ap (λ r. r.rest) now ∙ ap (λ y. old.text.rest ++ y) is))
            (more_copied x old.given k old.text.rest f given.given le);
      };
      begun = ap (λ r. r.begun) now;
      further = omega arith;
    }

pub closed : (E T : Type 0) (step : Step) → step ≢ NeedMore → WhereOpen {E = E} (Ok step) T
closed E T (ItemStep item n) ne = tt
closed E T NeedMore ne = absurd (ne refl)
closed E T (BadStep bad) ne = tt

pub judged_under : {E : Type 0} (limit limit' : ℕ) (begun begun' : Bool) (x : List ℕ) (result : Result Step E) → limit ≡ limit' → begun ≡ begun'
    → JudgesFront limit begun x result → JudgesFront limit' begun' x result
judged_under limit limit' begun begun' x result e f judged = subst (λ b. JudgesFront limit' b x result) f (subst (λ l. JudgesFront l begun x result) e judged)
