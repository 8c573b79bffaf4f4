-- Lists of what was judged of each of some values.
use Rattle.std.proofs.Common.{◌≡◌, List, [], ◌∷◌, ◌++◌, Option, Some, None, refl, sym, ◌∙◌, ap, subst, inl, inr, append-nil, append_assoc}
use Rattle.std.specs.Prelude.{flat_map, option_to_list}
use Rattle.std.proofs.lemmas.List.Concat.{flat_map-append}
use Rattle.key_state.proofs.Among.{Among}

module _ {X : Type 0} where
  -- those that there are
  abbrev pub given : List (Option X) → List X
  given os = flat_map option_to_list os

  pub given_push : (os : List (Option X)) (o : Option X) → given (os ++ o ∷ []) ≡ given os ++ option_to_list o
  given_push os o = flat_map-append option_to_list os (o ∷ []) ∙ ap (λ xs. given os ++ xs) (append-nil (option_to_list o))

module _ {V X : Type 0} where
  -- each was judged so
  abbrev pub AllJudged : (V → Option X → Type 0) → List V → List (Option X) → Type 0
  AllJudged J [] [] = Unit {0}
  AllJudged J [] (o ∷ os) = ⊥
  AllJudged J (v ∷ vs) [] = ⊥
  AllJudged J (v ∷ vs) (o ∷ os) = J v o × AllJudged J vs os

  pub judged_push : (J : V → Option X → Type 0) (vs : List V) (os : List (Option X)) (v : V) (o : Option X) → AllJudged J vs os → J v o
      → AllJudged J (vs ++ v ∷ []) (os ++ o ∷ [])
  judged_push J [] [] v o all j = (j, tt)
  judged_push J [] (p ∷ os) v o all j = absurd all
  judged_push J (u ∷ vs) [] v o all j = absurd all
  judged_push J (u ∷ vs) (p ∷ os) v o all j = (all.0, judged_push J vs os v o all.1 j)

  -- what the values' judgements say otherwise
  pub judged_so : (J K : V → Option X → Type 0) (vs : List V) (os : List (Option X)) → ((v : V) (o : Option X) → Among v vs → J v o → K v o)
      → AllJudged J vs os → AllJudged K vs os
  judged_so J K [] [] to all = tt
  judged_so J K [] (o ∷ os) to all = all
  judged_so J K (v ∷ vs) [] to all = all
  judged_so J K (v ∷ vs) (o ∷ os) to all = (to v o (inl refl) all.0, judged_so J K vs os (λ u p m. to u p (inr m)) all.1)

  -- the judgement of a value
  pub judgement_of : (J : V → Option X → Type 0) (vs : List V) (os : List (Option X)) (v : V) → AllJudged J vs os → Among v vs
      → (o : Option X) × J v o × ((x : X) → o ≡ Some x → Among x (given os))
  judgement_of J [] os v all m = absurd m
  judgement_of J (u ∷ vs) [] v all m = absurd all
  judgement_of J (u ∷ vs) (p ∷ os) v all (inl e) = (p, subst (λ w. J w p) e all.0, λ x is. subst (λ o. Among x (option_to_list o ++ given os)) (sym is) (inl refl))
  judgement_of J (u ∷ vs) (p ∷ os) v all (inr m) =
      let r = judgement_of J vs os v all.1 m in
      (r.0, r.1, λ x is. behind p (given os) x (r.2 x is))
    where
      behind : (p : Option X) (xs : List X) (x : X) → Among x xs → Among x (option_to_list p ++ xs)
      behind None xs x m = m
      behind (Some y) xs x m = inr m

-- so far: of a front of the values it is told what was judged of each, and these are given
pub record AreWalked {V X : Type 0} (J : V → Option X → Type 0) (all rest : List V) (xs : List X) : Type 0 where
  pub os : List (Option X)
  pub front : List V
  pub parts : front ++ rest ≡ all
  pub judged : AllJudged J front os
  pub given_are : xs ≡ given os

module _ {V X : Type 0} (J : V → Option X → Type 0) (all : List V) where
  pub begun : (rest : List V) (xs : List X) → rest ≡ all → xs ≡ [] → AreWalked J all rest xs
  begun rest xs same none = record { os = []; front = []; parts = same; judged = tt; given_are = none }

  pub further : (rest : List V) (v : V) (xs : List X) (o : Option X) → AreWalked J all (v ∷ rest) xs → J v o → AreWalked J all rest (xs ++ option_to_list o)
  further rest v xs o w j = record {
    os = w.os ++ o ∷ [];
    front = w.front ++ v ∷ [];
    parts = append_assoc w.front (v ∷ []) rest ∙ w.parts;
    judged = judged_push J w.front w.os v o w.judged j;
    given_are = ap (λ ys. ys ++ option_to_list o) w.given_are ∙ sym (given_push w.os o);
  }

  pub ended : (xs : List X) → AreWalked J all [] xs → (os : List (Option X)) × AllJudged J all os × (xs ≡ given os)
  ended xs w = (w.os, subst (λ vs. AllJudged J vs w.os) (sym (append-nil w.front) ∙ w.parts) w.judged, w.given_are)
