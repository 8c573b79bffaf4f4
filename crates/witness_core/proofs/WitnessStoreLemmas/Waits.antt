-- Events that wait, as events are accepted.
use Rattle.std.proofs.Common.{◌≡◌, ◌≤◌, ◌<◌, ◌+◌, ℕ, zero, suc, Bool, true, false, not, ◌&&◌, ◌||◌, List, [], ◌∷◌, ◌++◌, length, take, drop, slice_get, Some, None, Option, All, refl, sym, ◌∙◌, ap, arith, inl, inr, if◌then◌else◌}
use Rattle.std.specs.Prelude.{sum_by, filter_map, is_some, ◌==◌}
use Rattle.std.specs.List.{list_any, list_all}
use Rattle.std.proofs.lemmas.Bool.{and_parts, cases_Bool, cases_eq}
use Rattle.std.proofs.Math.Bool.{or-false}
use Rattle.std.proofs.lemmas.List.Elements.{All-head, All-tail}
use Rattle.std.proofs.lemmas.List.Folds.{list_any-append}
use Rattle.std.proofs.lemmas.List.Sums.{sum_by-cons}
use Rattle.claim_table.specs.CoreLaws.Waking.{is_waiting}
use Rattle.validator_core.specs.Tables.View.{waiter_at}
use Rattle.escrow.specs.declared.escrow.waiter.Waiter.{Waiter}
use Rattle.event_body.specs.EventBody.Events.{is_receipt}
use Rattle.journal.specs.declared.journal.body.Body.{Body}
use Rattle.journal.specs.Journal.Grown.{IsGrown, fits}
use Rattle.journal.specs.Journal.Journals.{chosen}
use Rattle.journal.specs.Journal.Logs.{is_in, same_body}
use Rattle.journal.proofs.JournalLemmas.Accepting.{same_body-refl}
use Rattle.journal.proofs.JournalLemmas.Different.{Differ}
use Rattle.journal.proofs.JournalLemmas.Places.{others_differ, some_at}
use Rattle.key_state.proofs.Same.{number_itself, numbers}
use Rattle.witness_core.specs.WitnessStore.Room.{count_waiting, if_waiting, is_event}
use Rattle.witness_core.proofs.WitnessStoreLemmas.Lists.{parted_at, take_place}
use Rattle.witness_core.proofs.WitnessStoreLemmas.Sums.{sum_change}

module _ (log : List Body) (c : Body) where
  is_in_push : (x : Body) → is_in (log ++ c ∷ []) x ≡ (is_in log x || same_body c x)
  is_in_push x = list_any-append (λ d. same_body d x) log (c ∷ []) ∙ ap (λ t. is_in log x || t) (or-false (same_body c x))

  -- one event more is accepted, and of the others none waits less
  other_waits : (f : Body → ℕ) (x : Body) → same_body c x ≡ false → if_waiting (log ++ c ∷ []) f x ≡ if_waiting log f x
  other_waits f x other = let same : is_in (log ++ c ∷ []) x ≡ is_in log x = is_in_push x ∙ (ap (λ t. is_in log x || t) other ∙ or-false (is_in log x)) in
      ap (λ t. if not (is_receipt x.event) && not t then f x else 0) same

  waits_no_more : (f : Body → ℕ) → if_waiting (log ++ c ∷ []) f c ≡ 0
  waits_no_more f = let there : is_in (log ++ c ∷ []) c ≡ true = is_in_push c ∙ (ap (λ t. is_in log c || t) (same_body-refl c) ∙ or_true (is_in log c)) in
      elim (cases_Bool (is_receipt c.event)) [
        | inl k ↦ rw k refl
        | inr k ↦ rw (k, there) refl
      ]
    where
      or_true : (b : Bool) → (b || true) ≡ true
      or_true true = refl
      or_true false = refl

  -- ACCEPTED: what the events need that wait falls by what this one needs
  pub accepted_less : (all : List Body) → Differ same_body all → (n : ℕ) → slice_get all n ≡ Some c → is_waiting log c ≡ true → (f : Body → ℕ)
      → sum_by (if_waiting (log ++ c ∷ []) f) all + f c ≡ sum_by (if_waiting log f) all
  accepted_less all differ n at waits f =
      let here : if_waiting log f c ≡ f c = ap (λ t. if t then f c else 0) waits in
      omega (
        arith,
        here,
        waits_no_more f,
        sum_change (if_waiting (log ++ c ∷ []) f) (if_waiting log f) all n c at (λ m x other there. other_waits f x (others_differ all differ n c at m x other there)),
      )

-- an event of a grown log waited before it
pub waited : (log : List Body) → IsGrown log → (i : ℕ) (c : Body) → slice_get log i ≡ Some c → is_waiting (take i log) c ≡ true
unfolding fits
waited log grown i c at = (and_parts _ _ (grown (take i log) (drop (i + 1) log) c (parted_at log i c at))).0

-- each of the list has a number
abbrev pub AreAmong : List Body → List Body → Type 0
AreAmong all log = (i : ℕ) (c : Body) → slice_get log i ≡ Some c → (n : ℕ) × (slice_get all n ≡ Some c)

module _ (all log : List Body) (differ : Differ same_body all) (grown : IsGrown log) (among : AreAmong all log) (events : list_all is_event all ≡ true) where
  all_wait : (xs : List Body) → list_all is_event xs ≡ true → count_waiting [] xs ≡ length xs
  all_wait [] h = omega arith
  all_wait (x ∷ xs) h =
      let parts = and_parts (is_event x) (list_all is_event xs) h in
      let here : if_waiting [] (λ b. 1) x ≡ 1 = (let is = parts.0 in rw is refl) in
      omega (arith, here, sum_by-cons (if_waiting [] (λ b. 1)) x xs, all_wait xs parts.1)

  -- COUNTED: those that wait and those that are accepted are all
  pub counted : (i : ℕ) → i ≤ length log → count_waiting (take i log) all + i ≡ length all
  counted zero le = omega (arith, all_wait all events)
  counted (suc i) le =
      let (c, at) = some_at log i (omega (arith, le)) in
      let (n, there) = among i c at in
      let less = accepted_less (take i log) c all differ n there (waited log grown i c at) (λ b. 1) in
      let step : suc i ≡ i + 1 = omega arith in
      let next : count_waiting (take (suc i) log) all ≡ count_waiting (take i log ++ c ∷ []) all = ap (λ l. count_waiting l all) (ap (λ k. take k log) step ∙ take_place log i c at) in
      omega (arith, next, less, counted i (omega (arith, le)))

-- the numbers of accepted bodies name as many
pub chosen_length : (held : List Body) (ns : List ℕ) → All (λ n. n < length held) ns → length (chosen held ns) ≡ length ns
unfolding chosen
chosen_length held [] below = refl
chosen_length held (n ∷ ns) below =
    let (b, at) = some_at held n (All-head (λ n. n < length held) n ns below) in
    let rest = chosen_length held ns (All-tail (λ n. n < length held) n ns below) in
    rw at (ap (λ k. suc k) rest)

pub chosen_at : (held : List Body) (ns : List ℕ) → All (λ n. n < length held) ns → (i : ℕ) (c : Body) → slice_get (chosen held ns) i ≡ Some c → (n : ℕ) × (slice_get ns i ≡ Some n) × (slice_get held n ≡ Some c)
unfolding chosen
chosen_at held [] below i c at = cc
chosen_at held (n ∷ ns) below i c at =
    let (b, there) = some_at held n (All-head (λ n. n < length held) n ns below) in
    by_place i b there (rw there at at) (λ j. chosen_at held ns (All-tail (λ n. n < length held) n ns below) j c)
  where
    by_place : (i : ℕ) (b : Body) → slice_get held n ≡ Some b → slice_get (b ∷ filter_map (λ n. slice_get held n) ns) i ≡ Some c
        → ((j : ℕ) → slice_get (filter_map (λ n. slice_get held n) ns) j ≡ Some c → (m : ℕ) × (slice_get ns j ≡ Some m) × (slice_get held m ≡ Some c))
        → (m : ℕ) × (slice_get (n ∷ ns) i ≡ Some m) × (slice_get held m ≡ Some c)
    by_place zero b there at rest = (n, refl, cc)
    by_place (suc i) b there at rest = rest i at

-- LISTED: a number is among the accepted just where its body is
pub number_listed : (held : List Body) → Differ same_body held → (ns : List ℕ) → All (λ n. n < length held) ns → (n : ℕ) (b : Body) → slice_get held n ≡ Some b
    → list_any (λ m. m == n) ns ≡ is_in (chosen held ns) b
unfolding chosen
number_listed held differ [] below n b at = refl
number_listed held differ (m ∷ ns) below n b at =
    let (c, there) = some_at held m (All-head (λ n. n < length held) m ns below) in
    let rest = number_listed held differ ns (All-tail (λ n. n < length held) m ns below) n b at in
    let here : (m == n) ≡ same_body c b = elim (cases_eq m n) [
      | inl same ↦ (let one : Some c ≡ Some b = sym there ∙ ap (slice_get held) same ∙ at in let is : c ≡ b = cc in
          (ap (λ k. k == n) same ∙ number_itself n) ∙ sym (ap (λ x. same_body x b) is ∙ same_body-refl b))
      | inr other ↦ (let no : same_body c b ≡ false = others_differ held differ m c there n b (λ e. other (sym e)) at in
          elim (cases_Bool (m == n)) [ inl k ↦ absurd (other (numbers m n k)) | inr k ↦ k ∙ sym no ])
    ] in
    rw there (rw (here, rest) refl)

-- a waiter is there just where the event waits
pub waiter_there : (done : List ℕ) (n : ℕ) (b : Body) (log : List Body) → list_any (λ m. m == n) done ≡ is_in log b → (o : Option Waiter) → o ≡ waiter_at done n (Some b)
    → is_some o ≡ is_waiting log b
unfolding waiter_at
waiter_there done n b log listed o is = elim (cases_Bool (is_receipt b.event)) [
  | inl r ↦ (let none : o ≡ None = rw r at is in rw (none, r) refl)
  | inr r ↦ elim (cases_Bool (is_in log b)) [
    | inl k ↦ (let there : list_any (λ m. m == n) done ≡ true = listed ∙ k in let none : o ≡ None = rw (r, there) at is in rw (none, r, k) refl)
    | inr k ↦ (let away : list_any (λ m. m == n) done ≡ false = listed ∙ k in let some = rw (r, away) at is in rw (some, r, k) refl)
  ]
]
