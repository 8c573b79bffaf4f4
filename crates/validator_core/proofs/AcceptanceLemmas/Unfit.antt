-- The first body that doesn't fit a log: with none the bodies are a grown list, and those before it always are.
use Rattle.std.proofs.Common.{◌≡◌, ℕ, ◌+◌, false, List, [], ◌∷◌, ◌++◌, length, Some, None, refl, sym, ◌∙◌, ap, inl, inr, arith, append-nil, append_assoc, subst}
use Rattle.std.proofs.lemmas.Bool.{cases_Bool}
use Rattle.journal.specs.declared.journal.body.Body.{Body}
use Rattle.journal.specs.Journal.Grown.{IsGrown, fits}
use Rattle.journal.specs.Journal.Journals.{first_unfit}
use Rattle.journal.proofs.JournalLemmas.Keeping.{IsGrown-push}

-- GROWN: bodies of which none is unfit, behind a grown list
pub all_fit : (place : ℕ) (before bodies : List Body) → first_unfit place before bodies ≡ None → IsGrown before → IsGrown (before ++ bodies)
all_fit place before [] e grown = subst IsGrown (sym (append-nil before)) grown
all_fit place before (b ∷ bodies) e grown = elim (cases_Bool (fits before b)) [
  | inl k ↦ (let rest : first_unfit (place + 1) (before ++ b ∷ []) bodies ≡ None = rw k at e in
      subst IsGrown (append_assoc before (b ∷ []) bodies) (all_fit (place + 1) (before ++ b ∷ []) bodies rest (IsGrown-push before b grown k)))
  | inr k ↦ (let none : Some place ≡ None = rw k at e in cc)
]

-- UNFIT: the one that is, with those before it, which are grown
pub record IsUnfit (place : ℕ) (before bodies : List Body) (n : ℕ) : Type 0 where
  pub front : List Body
  pub body : Body
  pub rest : List Body
  pub parted : bodies ≡ front ++ body ∷ rest
  pub number : n ≡ place + length front
  pub grown : IsGrown before → IsGrown (before ++ front)
  pub unfit : fits (before ++ front) body ≡ false

pub first_is : (place : ℕ) (before bodies : List Body) (n : ℕ) → first_unfit place before bodies ≡ Some n → IsUnfit place before bodies n
first_is place before [] n e = cc
first_is place before (b ∷ bodies) n e = elim (cases_Bool (fits before b)) [
  | inl k ↦ (let later : first_unfit (place + 1) (before ++ b ∷ []) bodies ≡ Some n = rw k at e in
      let u = first_is (place + 1) (before ++ b ∷ []) bodies n later in
      let same = append_assoc before (b ∷ []) u.front in
      record {
        front = b ∷ u.front;
        body = u.body;
        rest = u.rest;
        parted = ap (λ l. b ∷ l) u.parted;
        number = omega (arith, u.number);
        grown = λ g. subst IsGrown same (u.grown (IsGrown-push before b g k));
        unfit = ap (λ l. fits l u.body) (sym same) ∙ u.unfit;
      })
  | inr k ↦ (let here : Some place ≡ Some n = rw k at e in let is : place ≡ n = cc in
      record {
        front = [];
        body = b;
        rest = bodies;
        parted = refl;
        number = omega (arith, is);
        grown = λ g. subst IsGrown (sym (append-nil before)) g;
        unfit = ap (λ l. fits l b) (append-nil before) ∙ k;
      })
]
