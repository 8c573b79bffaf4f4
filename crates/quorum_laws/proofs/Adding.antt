-- What one more key adds to a union.
use Rattle.std.proofs.Common.{◌≡◌, ℕ, ◌+◌, ◌<◌, Bool, not, ◌||◌, List, [], ◌∷◌, ◌++◌, length, take, get_or, cond, sym, ap, arith, inl, inr, append_assoc, length-append}
use Rattle.std.proofs.lemmas.Bool.{cases_Bool}
use Rattle.std.proofs.lemmas.List.{take_more}
use Rattle.std.proofs.lemmas.List.Folds.{list_any-append}
use Rattle.cesr_codes.specs.declared.key.Key.{Key}
use Rattle.journal.proofs.JournalLemmas.Distinct.{distinct-push_new, distinct-push_old}
use Rattle.key_state.specs.Same.{same_key, has_key, distinct}
use Rattle.quorum_laws.specs.Agreement.{union}

-- one where the key is new, and nothing where it isn't
union-push : (known keys : List Key) (k : Key) → length (union known (keys ++ k ∷ [])) ≡ length (union known keys) + cond (not (has_key known k || has_key keys k)) 1 0
union-push known keys k =
    let longer : union known (keys ++ k ∷ []) ≡ distinct same_key ((known ++ keys) ++ k ∷ []) = ap (distinct same_key) (sym (append_assoc known keys (k ∷ []))) in
    let split : has_key (known ++ keys) k ≡ (has_key known k || has_key keys k) = list_any-append (λ l. same_key l k) known keys in
    elim (cases_Bool (has_key (known ++ keys) k)) [
      | inl h ↦ (let e = distinct-push_old same_key k (known ++ keys) h in rw (longer, e, ← split, h) (omega arith))
      | inr h ↦ (let e = distinct-push_new same_key k (known ++ keys) h in rw (longer, e, ← split, h, length-append) (omega arith))
    ]

pub union_more : (known keys : List Key) (i : ℕ) (d : Key) (new : Bool) → i < length keys → new ≡ not (has_key known (get_or keys i d) || has_key (take i keys) (get_or keys i d))
    → length (union known (take (i + 1) keys)) ≡ length (union known (take i keys)) + cond new 1 0
union_more known keys i d new below is = rw (take_more keys i d below, is) (union-push known (take i keys) (get_or keys i d))
