-- Inquiries for verdicts that are told, and on questions that are open.
use Rattle.std.proofs.Common.{◌≡◌, ℕ, zero, suc, true, List, [], ◌∷◌, ◌++◌, Option, Some, refl, sym, ◌∙◌, ap, subst, arith, inl, inr}
use Rattle.std.specs.Prelude.{All, Contains, flat_map, map, slice_get, take}
use Rattle.std.specs.List.{list_any}
use Rattle.std.proofs.lemmas.Bool.{and_parts, cases_Bool, or_cases}
use Rattle.std.proofs.lemmas.Grind.{flat_map-append}
use Rattle.std.proofs.lemmas.List.Elements.{All-append, All-cons, All-nil, All-take, All-weaker, Contains-append_cases, Contains-append_left, Contains-append_right}
use mathlib.Core.List.{IsPrefix}
use Rattle.lists.specs.KeriSpecs.Shown.{after}
use Rattle.lists.proofs.KeriSpecsLemmas.Putting.{after-append, after-nil}
use Rattle.keri_outside.specs.declared.inquiry.Inquiry.{Inquiry}
use Rattle.journal.specs.declared.journal.mode.Mode.{Mode}
use Rattle.journal.specs.Journal.History.{Told, Triple, took, heard, has_verdict, heard_in, same_triple}
use Rattle.journal.specs.Journal.Questions.{questions, raised}
use Rattle.journal.proofs.JournalLemmas.Places.{any_at, found_at}
use Rattle.journal.proofs.JournalLemmas.Same.{same_triple_is, same_triple_itself}
use Rattle.claim_table.proofs.CoreLawsLemmas.RaisedStays.{raised_stays}
use Rattle.validator_core.specs.ValidatorCore.Verdicts.{inquiries_in, inquiry_in, inquiry_on}
use Rattle.reader_hub.specs.SharedReader.Asks.{AsksOnly, IsToldOrOpen}
use Rattle.reader_hub.proofs.SharedReaderLemmas.Verdicts.{open_in}

-- an element of a list, as one of what is made of it
contains_at : {X Y : Type 0} (f : X → Y) (xs : List X) (n : ℕ) (x : X) → slice_get xs n ≡ Some x → Contains (map f xs) (f x)
contains_at f [] n x at = cc
contains_at f (y ∷ xs) zero x at = let same : y ≡ x = cc in (0, omega arith, ap f same)
contains_at f (y ∷ xs) (suc n) x at = Contains-append_right (f y ∷ []) (map f xs) (f x) (contains_at f xs n x at)

at_contained : {X Y : Type 0} (f : X → Y) (xs : List X) (y : Y) → Contains (map f xs) y → (n : ℕ) × (x : X) × (slice_get xs n ≡ Some x) × (f x ≡ y)
at_contained f [] y h = (let lt = h.1 in absurd (omega (arith, lt)))
at_contained f (x ∷ xs) y (zero, lt, is) = (0, x, refl, is)
at_contained f (x ∷ xs) y (suc k, lt, is) = let found = at_contained f xs y (k, omega (arith, lt), is) in (suc found.0, found.1, found.2, found.3)

-- a triple that has a verdict was asked for that
heard_inquired : (told : List Told) (t : Triple) → list_any (same_triple t) (flat_map heard_in told) ≡ true → Contains (inquiries_in told) (inquiry_on t)
heard_inquired [] t h = cc
heard_inquired (took reader b claims ∷ told) t h = heard_inquired told t h
heard_inquired (heard reader b key sig verdict ∷ told) t h =
    let u : Triple = record { body = b.bytes; key = key; sig = sig } in
    elim (or_cases (same_triple t u) (list_any (same_triple t) (flat_map heard_in told)) h) [
      | inl here ↦ (0, omega arith, ap inquiry_on (sym (same_triple_is t u here)))
      | inr there ↦ Contains-append_right (inquiry_on u ∷ []) (inquiries_in told) (inquiry_on t) (heard_inquired told t there)
    ]

module _ (mode : Mode) (told : List Told) where
  -- what is open is known
  pub open_known : (n : ℕ) (t : Triple) → slice_get (questions mode [] told) n ≡ Some t → IsToldOrOpen mode told (inquiry_on t)
  open_known n t at = Contains-append_right (inquiries_in told) (map inquiry_on (questions mode [] told)) (inquiry_on t) (contains_at inquiry_on (questions mode [] told) n t at)

  -- and so is what is raised: it has a verdict, or is open
  pub raised_known : (t : Triple) → list_any (same_triple t) (raised mode [] told) ≡ true → IsToldOrOpen mode told (inquiry_on t)
  unfolding has_verdict
  raised_known t up = elim (cases_Bool (has_verdict told t)) [
    | inl has ↦ Contains-append_left (inquiries_in told) (map inquiry_on (questions mode [] told)) (inquiry_on t) (heard_inquired told t has)
    | inr silent ↦ (
        let waits : list_any (same_triple t) (questions mode [] told) ≡ true = open_in mode told t ∙ rw (silent, up) refl in
        let found = found_at (same_triple t) (questions mode [] told) waits in
        let same : t ≡ found.1 = same_triple_is t found.1 found.3 in
        subst (λ u. IsToldOrOpen mode told (inquiry_on u)) (sym same) (open_known found.0 found.1 found.2)
        )
  ]

-- what is known stays known as more is told
pub known_later : (mode : Mode) (told more : List Told) (i : Inquiry) → IsToldOrOpen mode told i → IsToldOrOpen mode (told ++ more) i
known_later mode told more i known = elim (Contains-append_cases (inquiries_in told) (map inquiry_on (questions mode [] told)) i known) [
  | inl here ↦ Contains-append_left (inquiries_in (told ++ more)) (map inquiry_on (questions mode [] (told ++ more))) i
      (subst (λ (l : List Inquiry). Contains l i) (sym (flat_map-append inquiry_in told more)) (Contains-append_left (inquiries_in told) (inquiries_in more) i here))
  | inr asked ↦ (
      let found = at_contained inquiry_on (questions mode [] told) i asked in
      let t = found.1 in
      let up = (and_parts _ _ (sym (open_in mode told t) ∙ any_at (same_triple t) (questions mode [] told) found.0 t found.2 (same_triple_itself t))).1 in
      subst (IsToldOrOpen mode (told ++ more)) found.3 (raised_known mode (told ++ more) t (raised_stays mode told more t up))
      )
]

-- nothing was asked
pub only_none : (told : Option (List Inquiry)) (mode : Mode) (seen : List Told) → AsksOnly told told mode seen
only_none told mode seen = record { all = []; now_is = after-nil told; of_told = All-nil _ }

-- a front of one question was asked, and it is known
pub only_one : (before now : Option (List Inquiry)) (mode : Mode) (seen : List Told) (i : Inquiry) (n : ℕ) → now ≡ after before (take n (i ∷ [])) → IsToldOrOpen mode seen i → AsksOnly before now mode seen
only_one before now mode seen i n is known = record {
  all = take n (i ∷ []);
  now_is = is;
  of_told = All-take (IsToldOrOpen mode seen) n (i ∷ []) (All-cons (IsToldOrOpen mode seen) i [] known (All-nil _));
}

module _ (mode : Mode) (xs ys : List Told) (begins : IsPrefix xs ys) where
  each_later : (all : List Inquiry) → All (IsToldOrOpen mode xs) all → All (IsToldOrOpen mode ys) all
  each_later all known = subst (λ (l : List Told). All (IsToldOrOpen mode l) all) begins.1
      (All-weaker (IsToldOrOpen mode xs) (IsToldOrOpen mode (xs ++ begins.0)) (known_later mode xs begins.0) all known)

  -- more was told since
  pub only_later : (before now : Option (List Inquiry)) → AsksOnly before now mode xs → AsksOnly before now mode ys
  only_later before now a = record { all = a.all; now_is = a.now_is; of_told = each_later a.all a.of_told }

  -- and more was asked
  pub only_on : (before mid now : Option (List Inquiry)) → AsksOnly before mid mode xs → AsksOnly mid now mode ys → AsksOnly before now mode ys
  only_on before mid now a b = record {
    all = a.all ++ b.all;
    now_is = b.now_is ∙ (ap (λ told. after told b.all) a.now_is ∙ after-append before a.all b.all);
    of_told = All-append (IsToldOrOpen mode ys) a.all b.all (each_later a.all a.of_told) b.of_told;
  }
