-- Live events by their numbers, and what a search among these finds.
use Rattle.std.proofs.Common.{◌≡◌, ℕ, ◌<◌, ◌==◌, Bool, List, [], ◌∷◌, length, Result, Ok, Err, MatchResult, is_ok, refl, sym, ◌∙◌, ap, subst, inl, inr, get_or, ◌≤◌, arith, nat_cmp, ◌++◌}
use Rattle.std.specs.Prelude.{All, IsSorted, filter, flat_map, fold}
use Rattle.std.specs.List.{list_any}
use Rattle.std.specs.List.Sorted.{IsBinarySearchResult, IsPermutation}
use Rattle.std.proofs.lemmas.Bool.{cases_Bool, cases_lt}
use Rattle.std.proofs.lemmas.List.Folds.{list_any_at}
use Rattle.std.proofs.lemmas.List.Sorted.{IsNonDecreasingBy-from_sort, list_any-IsPermutation, searched}
use Rattle.std.proofs.lemmas.Option.{get_or_from_slice_get, slice_get_within}
use Rattle.cesr_codes.specs.declared.prefix.Prefix.{Prefix}
use Rattle.key_state.proofs.Same.{number_itself, numbers}
use Rattle.journal.specs.declared.journal.body.Body.{Body}
use Rattle.journal.specs.Journal.History.{bodies, taken}
use Rattle.journal.specs.Journal.Journals.{chosen}
use Rattle.journal.specs.Journal.Logs.{is_in, is_of, live, live_with, same_body}
use Rattle.journal.proofs.JournalLemmas.Different.{Differ, differ-distinct}
use Rattle.journal.proofs.JournalLemmas.Places.{all_at, found_at}
use Rattle.validator_core.proofs.AcceptanceLemmas.Bodies.{among}
use Rattle.validator_core.specs.ValidatorCore.View.{CoreView, IsSoundCore, base_of, told_of}
use Rattle.report_lines.specs.Logs.{Marks}
use Rattle.report_lines.specs.Report.{own_of}

-- a search among rising numbers finds one exactly where it is there
pub sought : (xs : List ℕ) (x : ℕ) (r : Result ℕ ℕ) → IsBinarySearchResult (λ y. nat_cmp y x) xs r → IsSorted nat_cmp xs → list_any (λ m. m == x) xs ≡ is_ok r
sought xs x r position sorted = by r (searched xs x r position (λ i j a b. IsNonDecreasingBy-from_sort (λ y. y) xs sorted i j 0 a b))
  where
    by : (r : Result ℕ ℕ) → MatchResult r (λ i. (i < length xs) × (get_or xs i 0 ≡ x)) (λ i. (i ≤ length xs) × ((k : ℕ) → k < i → get_or xs k 0 < x) × ((k : ℕ) → i ≤ k → k < length xs → x < get_or xs k 0))
        → list_any (λ m. m == x) xs ≡ is_ok r
    by (Ok i) found = list_any_at (λ m. m == x) xs i 0 found.0 (ap (λ m. m == x) found.1 ∙ number_itself x)
    by (Err i) none = elim (cases_Bool (list_any (λ m. m == x) xs)) [
      | inl h ↦ (
          let f = found_at (λ m. m == x) xs h in
          let is = numbers f.1 x f.3 in
          let at = get_or_from_slice_get xs f.0 f.1 0 f.2 in
          let within = slice_get_within xs f.0 f.1 f.2 in
          elim (cases_lt f.0 i) [
            | inl low ↦ absurd (omega (arith, is, at, none.1 f.0 low))
            | inr high ↦ absurd (omega (arith, is, at, none.2 f.0 high within))
          ])
      | inr h ↦ h
    ]

-- what is live among an identifier's own events is live among all
filter-twice : {X : Type 0} (q : X → Bool) (xs : List X) → filter q (filter q xs) ≡ filter q xs
filter-twice q [] = refl
filter-twice q (x ∷ xs) = elim (cases_Bool (q x)) [
  | inl k ↦ rw (k, k) (ap (λ ys. x ∷ ys) (filter-twice q xs))
  | inr k ↦ rw k (filter-twice q xs)
]

pub live-own : (log : List Body) (prefix : Prefix) → live (own_of prefix log) prefix ≡ live log prefix
unfolding live
live-own log prefix = ap (fold live_with []) (filter-twice (is_of prefix) log)

-- no two bodies are the same
apart : (core : CoreView) → IsSoundCore core → Differ same_body core.held
unfolding bodies
apart core stands = subst (Differ same_body) (sym stands.in_order) (differ-distinct same_body (base_of core ++ flat_map taken (told_of core)))

-- MARKS: the numbers of chosen bodies, in any order
pub marked : (core : CoreView) → IsSoundCore core → (found sorted : List ℕ) → All (λ n. n < length core.held) found → IsPermutation found sorted
    → (bodies : List Body) → chosen core.held found ≡ bodies → Marks core.held sorted bodies
marked core stands found sorted held moved bodies are n b at =
    ap (λ bs. is_in bs b) (sym are)
    ∙ among core.held (apart core stands) n b at found (λ i m there. all_at (λ n. n < length core.held) found held i m there)
    ∙ list_any-IsPermutation (λ m. m == n) found sorted moved
