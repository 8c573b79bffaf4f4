-- The culprits of two bodies: members of both lists that back both.
use Rattle.std.proofs.Common.{◌≡◌, Bool, true, false, ◌&&◌, List, [], ◌∷◌, ◌++◌, map, Option, Some, None, is_some, refl, sym, ◌∙◌, ap, inl, inr}
use Rattle.std.specs.Prelude.{All, filter, filter_map, option_to_list}
use Rattle.std.proofs.lemmas.Bool.{cases_Bool}
use Rattle.std.proofs.lemmas.List.Elements.{All-cons, All-nil}
use Rattle.cesr_codes.specs.declared.key.Key.{Key}
use Rattle.cesr_codes.specs.declared.sig.Sig.{Sig}
use Rattle.key_state.specs.Same.{same_key, has_key, distinct}
use Rattle.journal.proofs.JournalLemmas.Distinct.{distinct-push_new, distinct-push_old}
use Rattle.blame_core.specs.BlameCore.Culprits.{culprit_of}
use Rattle.blame_core.specs.declared.blame_core.culprit.Culprit.{Culprit}
use Rattle.blame_core.proofs.BlameCoreLemmas.Lists.{filter_map_push}

-- one more member of the list, at its first coming
module _ (f : Key → Option Culprit) (seen : List Key) (key : Key) (known : Bool) (is : known ≡ has_key seen key)
    (xs : List Culprit) (so_far : xs ≡ filter_map f (distinct same_key seen)) where
  pub new_member : known ≡ false → (ws : List Key) → ws ≡ seen ++ key ∷ [] → xs ++ option_to_list (f key) ≡ filter_map f (distinct same_key ws)
  new_member h ws more =
      ap (λ ys. ys ++ option_to_list (f key)) so_far
      ∙ sym (ap (λ ks. filter_map f (distinct same_key ks)) more
      ∙ ap (filter_map f) (distinct-push_new same_key key seen (sym is ∙ h))
      ∙ filter_map_push f (distinct same_key seen) key)

  pub old_member : known ≡ true → (ws : List Key) → ws ≡ seen ++ key ∷ [] → xs ≡ filter_map f (distinct same_key ws)
  old_member h ws more =
      so_far
      ∙ sym (ap (λ ks. filter_map f (distinct same_key ks)) more
      ∙ ap (filter_map f) (distinct-push_old same_key key seen (sym is ∙ h)))

module _ (others : List Key) (f g : Key → Option Sig) where
  abbrev named : Key → Option Culprit
  named = culprit_of others f g

  abbrev is_named : Key → Bool
  is_named k = has_key others k && (is_some (f k) && is_some (g k))

  -- what is said of one key
  data Said (k : Key) : Type 0 where
    none : named k ≡ None → is_named k ≡ false → Said k
    both : (one other : Sig) → f k ≡ Some one → g k ≡ Some other → named k ≡ Some (record { key = k; one = one; other = other }) → is_named k ≡ true → Said k

  said : (k : Key) → Said k
  said k = elim (cases_Bool (has_key others k)) [
    | inl h ↦ of h (f k) (g k) refl refl
    | inr h ↦ none (rw h refl) (rw h refl)
  ]
    where
      of : has_key others k ≡ true → (o p : Option Sig) → f k ≡ o → g k ≡ p → Said k
      of h None p a b = none (rw (h, a) refl) (rw (h, a) refl)
      of h (Some x) None a b = none (rw (h, a, b) refl) (rw (h, a, b) refl)
      of h (Some x) (Some y) a b = both x y a b (rw (h, a, b) refl) (rw (h, a, b) refl)

  -- their keys
  keys_of : (ks : List Key) → map (λ (x : Culprit). x.key) (filter_map named ks) ≡ filter is_named ks
  keys_of [] = refl
  keys_of (k ∷ ks) = step (said k) (keys_of ks)
    where
      step : Said k → map (λ (x : Culprit). x.key) (filter_map named ks) ≡ filter is_named ks
          → map (λ (x : Culprit). x.key) (filter_map named (k ∷ ks)) ≡ filter is_named (k ∷ ks)
      step (none a b) ih = rw (a, b) ih
      step (both x y e d a b) ih = rw (a, b) (ap (λ xs. k ∷ xs) ih)

  -- and what holds of each
  each_of : (P : Culprit → Type 0) → ((k : Key) (x y : Sig) → f k ≡ Some x → g k ≡ Some y → P (record { key = k; one = x; other = y }))
      → (ks : List Key) → All P (filter_map named ks)
  each_of P holds [] = All-nil P
  each_of P holds (k ∷ ks) = step (said k) (each_of P holds ks)
    where
      step : Said k → All P (filter_map named ks) → All P (filter_map named (k ∷ ks))
      step (none a b) ih = rw a ih
      step (both x y e d a b) ih = rw a (All-cons P (record { key = k; one = x; other = y }) (filter_map named ks) (holds k x y e d) ih)

  -- where the signatures are those of keys that pass two tests
  module _ (p q : Key → Bool) (of_p : (k : Key) → is_some (f k) ≡ p k) (of_q : (k : Key) → is_some (g k) ≡ q k) where
    pub named_keys : (ks : List Key) → map (λ (x : Culprit). x.key) (filter_map named ks) ≡ filter (λ k. has_key others k && (p k && q k)) ks
    named_keys ks = keys_of ks ∙ (λ i. filter (λ k. has_key others k && (of_p k i && of_q k i)) ks)

  pub named_ones : (ks : List Key) → All (λ x. f x.key ≡ Some x.one) (filter_map named ks)
  named_ones = each_of (λ x. f x.key ≡ Some x.one) (λ k x y a b. a)

  pub named_others : (ks : List Key) → All (λ x. g x.key ≡ Some x.other) (filter_map named ks)
  named_others = each_of (λ x. g x.key ≡ Some x.other) (λ k x y a b. b)
