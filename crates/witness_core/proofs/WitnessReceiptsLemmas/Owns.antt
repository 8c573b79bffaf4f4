-- A message's own event among those that were stored before.
use Rattle.std.proofs.Common.{◌≡◌, ℕ, ◌<◌, ◌≤◌, ◌==◌, true, false, List, [], ◌∷◌, ◌++◌, length, take, drop, Some, None, refl, sym, ap, ◌∙◌, inl, inr}
use Rattle.std.specs.Prelude.{All, IfOk, Result, Ok, Err, find, slice_get, if◌then◌else◌}
use Rattle.std.specs.List.{cons_option, list_any}
use Rattle.std.proofs.lemmas.Bool.{cases_Bool}
use Rattle.std.proofs.lemmas.List.Elements.{All-head, All-tail, filter-append, filter_map-append}
use Rattle.std.proofs.lemmas.List.{length-take-le}
use Rattle.cesr_codes.specs.declared.key.Key.{Key}
use Rattle.key_state.proofs.Same.{numbers, number_itself}
use Rattle.journal.specs.declared.journal.body.Body.{Body}
use Rattle.journal.specs.Journal.Journals.{chosen}
use Rattle.journal.specs.Journal.Logs.{same_body}
use Rattle.journal.proofs.JournalLemmas.Accepting.{same_body-refl}
use Rattle.journal.proofs.JournalLemmas.Different.{Differ}
use Rattle.journal.proofs.JournalLemmas.Places.{others_differ, some_at}
use Rattle.validator_core.specs.ValidatorCore.Signatures.{is_witness_under}
use Rattle.witness_core.specs.WitnessReceipts.Receipts.{again, due, listed}
use Rattle.witness_core.proofs.WitnessReceiptsLemmas.Numbers.{take-chosen}

module _ (held : List Body) (differ : Differ same_body held) (n : ℕ) (b : Body) (at : slice_get held n ≡ Some b) where
  same_at : (m : ℕ) (c : Body) → slice_get held m ≡ Some c → same_body c b ≡ (m == n)
  same_at m c there = elim (cases_Bool (m == n)) [
    | inl k ↦ (let one : Some c ≡ Some b = sym there ∙ ap (slice_get held) (numbers m n k) ∙ at in
        let is : c ≡ b = cc in
        ap (λ d. same_body d b) is ∙ same_body-refl b ∙ sym k)
    | inr k ↦ others_differ held differ m c there n b (λ same. (let yes_same = ap (λ i. m == i) same ∙ number_itself m in cc)) at ∙ sym k
  ]

  -- it is found among chosen bodies just where its number is among theirs
  found_own : (ns : List ℕ) → All (λ m. m < length held) ns → find (λ c. same_body c b) (chosen held ns) ≡ (if list_any (λ m. m == n) ns then Some b else None)
  unfolding chosen
  found_own [] low = refl
  found_own (m ∷ ns) low =
      let c = some_at held m (All-head (λ m. m < length held) m ns low) in
      let there = c.1 in
      let ih = found_own ns (All-tail (λ m. m < length held) m ns low) in
      let here = same_at m c.0 c.1 in
      elim (cases_Bool (m == n)) [
        | inl k ↦ (let one : Some c.0 ≡ Some b = sym c.1 ∙ ap (slice_get held) (numbers m n k) ∙ at in
            let test : same_body c.0 b ≡ true = here ∙ k in
            rw there (rw (test, k) one))
        | inr k ↦ (let test : same_body c.0 b ≡ false = here ∙ k in rw there (rw (test, k) ih))
      ]

  -- OWN: among the first of a log, whose numbers are these
  module _ (ns : List ℕ) (low : All (λ m. m < length held) ns) (log : List Body) (are : chosen held ns ≡ log) (front : ℕ) (low_front : All (λ m. m < length held) (take front ns)) where
    again_is : again (take front log) b.bytes ≡ cons_option (if list_any (λ m. m == n) (take front ns) then Some b else None) []
    again_is =
        ap (λ bodies. again bodies b.bytes) (ap (take front) (sym are) ∙ take-chosen held ns front low)
        ∙ ap (λ o. cons_option o []) (found_own (take front ns) low_front)

    module _ (key : Key) where
      pub own_out : list_any (λ m. m == n) (take front ns) ≡ false → listed key log (again (take front log) b.bytes) ≡ []
      own_out h = ap (listed key log) again_is ∙ rw h refl

      pub own_listed : list_any (λ m. m == n) (take front ns) ≡ true → is_witness_under log b key ≡ true → listed key log (again (take front log) b.bytes) ≡ b ∷ []
      own_listed h is = ap (listed key log) again_is ∙ rw h (rw is refl)

      pub own_other : list_any (λ m. m == n) (take front ns) ≡ true → is_witness_under log b key ≡ false → listed key log (again (take front log) b.bytes) ≡ []
      own_other h is = ap (listed key log) again_is ∙ rw h (rw is refl)

-- the body of one number
pub chosen_one : (held : List Body) (n : ℕ) (b : Body) → slice_get held n ≡ Some b → chosen held (n ∷ []) ≡ b ∷ []
unfolding chosen
chosen_one held n b at = rw at refl

pub chosen_none : (held : List Body) → chosen held [] ≡ []
unfolding chosen
chosen_none held = refl

-- DUE: the numbers of the listed events since, and that of the message's own behind them
pub due_is : (held : List Body) (log : List Body) (key : Key) (front : ℕ) (text : List ℕ) (xs ys : List ℕ) → front ≤ length log
    → chosen held xs ≡ listed key log (drop front log) → chosen held ys ≡ listed key log (again (take front log) text)
    → chosen held (xs ++ ys) ≡ due key (take front log) log text
unfolding chosen
due_is held log key front text xs ys few since own =
    filter_map-append (λ n. slice_get held n) xs ys
    ∙ (λ i. since i ++ own i)
    ∙ sym (filter-append (λ b. is_witness_under log b key) (drop front log) (again (take front log) text))
    ∙ ap (λ k. listed key log (drop k log ++ again (take front log) text)) (sym (length-take-le front log few))

-- what follows of a value that there is
pub if_ok_then : {T E : Type 0} {P Q : T → Type 0} (r : Result T E) → IfOk r P → ((t : T) → P t → Q t) → IfOk r Q
if_ok_then (Ok t) p f = f t p
if_ok_then (Err e) p f = tt
