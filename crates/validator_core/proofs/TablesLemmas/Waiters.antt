-- The escrow, as the bodies and the accepted events grow and are cut back.
use Rattle.std.proofs.Common.{◌≡◌, ℕ, true, false, List, [], ◌∷◌, ◌++◌, length, take, drop, refl, sym, ◌∙◌, ap, inl, inr, arith, Option, Some, None, nat_lt, nat_le}
use Rattle.std.specs.Prelude.{slice_get, ◌==◌, ◌&&◌, if◌then◌else◌}
use Rattle.std.specs.List.{list_any}
use Rattle.std.proofs.lemmas.Bool.{cases_Bool, cases_eq, cases_lt, le-leb, le-ltb, lt-leb, lt-ltb}
use Rattle.std.proofs.lemmas.List.{take-append-drop}
use Rattle.std.proofs.lemmas.List.Folds.{list_any-append}
use Rattle.std.proofs.lemmas.Option.{slice_get_past}
use Rattle.std.proofs.Math.Seq.{take-length}
use Rattle.event_body.specs.EventBody.Events.{is_receipt}
use Rattle.escrow.specs.Escrow.Escrow.{Escrow, held as held_by}
use Rattle.escrow.specs.declared.escrow.waiter.Waiter.{Waiter}
use Rattle.journal.specs.declared.journal.body.Body.{Body}
use Rattle.journal.proofs.JournalLemmas.Places.{slice_get_last}
use Rattle.key_state.proofs.Same.{number_itself}
use Rattle.validator_core.specs.Tables.Hints.{IsEscrow}
use Rattle.validator_core.specs.Tables.Rows.{placed, waiter_for}
use Rattle.validator_core.specs.Tables.View.{waiter_at}
use Rattle.validator_core.proofs.TablesLemmas.Rows.{differ, past_front}
use Rattle.lists.proofs.ListsLemmas.Places.{not_at_end, in_front}

-- nothing waits under the next number
pub next_free : (w : Escrow) (held : List Body) (done : List ℕ) (n : ℕ) → IsEscrow w held done → n ≡ length held → held_by n w ≡ None
unfolding waiter_at
next_free w held done n is same = is n ∙ ap (waiter_at done n) (slice_get_past held n (omega (arith, same)))

-- what waits under the next number, once its waiter is there
last_waits : (done : List ℕ) (n : ℕ) (b : Body) (o : Option Waiter) → list_any (λ m. m == n) done ≡ false → o ≡ None → placed (waiter_for n b.event) n o ≡ waiter_at done n (Some b)
unfolding waiter_at
last_waits done n b o fresh none = elim (cases_Bool (is_receipt b.event)) [
  | inl k ↦ rw (k, none) refl
  | inr k ↦ (let one = number_itself n in rw (k, fresh, one) refl)
]

-- and under another number what waited before
others_wait : (n k : ℕ) (b : Body) (o : Option Waiter) → (k ≡ n → ⊥) → placed (waiter_for n b.event) k o ≡ o
others_wait n k b o other = elim (cases_Bool (is_receipt b.event)) [
  | inl r ↦ rw r refl
  | inr r ↦ (let no = differ k n other in rw (r, no) refl)
]

pub escrow_body : (w new : Escrow) (held : List Body) (done : List ℕ) (b : Body) → list_any (λ m. m == length held) done ≡ false → IsEscrow w held done
    → ((n : ℕ) → held_by n new ≡ placed (waiter_for (length held) b.event) n (held_by n w)) → IsEscrow new (held ++ b ∷ []) done
unfolding waiter_at
escrow_body w new held done b fresh is put n = elim (cases_eq n (length held)) [
  | inl last ↦ let none = next_free w held done (length held) is refl in
      rw last (put (length held) ∙ last_waits done (length held) b (held_by (length held) w) fresh none ∙ sym (ap (waiter_at done (length held)) (slice_get_last held b)))
  | inr before ↦ put n ∙ others_wait (length held) n b (held_by n w) before ∙ is n ∙ sym (ap (waiter_at done n) (not_at_end held b n before))
]

-- those that leave
gone : (front later : List ℕ) (n : ℕ) (o : Option Body) → waiter_at (front ++ later) n o ≡ (if list_any (λ m. m == n) later then None else waiter_at front n o)
unfolding waiter_at
gone front later n None = elim (cases_Bool (list_any (λ m. m == n) later)) [ inl k ↦ rw k refl | inr k ↦ rw k refl ]
gone front later n (Some b) =
    let both = list_any-append (λ m. m == n) front later in
    elim (cases_Bool (is_receipt b.event)) [
      | inl r ↦ elim (cases_Bool (list_any (λ m. m == n) later)) [ inl k ↦ rw (r, k) refl | inr k ↦ rw (r, k) refl ]
      | inr r ↦ elim (cases_Bool (list_any (λ m. m == n) front)) [
        | inl f ↦ elim (cases_Bool (list_any (λ m. m == n) later)) [ inl k ↦ rw (r, both, f, k) refl | inr k ↦ rw (r, both, f, k) refl ]
        | inr f ↦ elim (cases_Bool (list_any (λ m. m == n) later)) [ inl k ↦ rw (r, both, f, k) refl | inr k ↦ rw (r, both, f, k) refl ]
      ]
    ]

pub escrow_released : (w new : Escrow) (held : List Body) (numbers : List ℕ) (released : ℕ) → IsEscrow w held (take released numbers)
    → ((n : ℕ) → held_by n new ≡ (if list_any (λ m. m == n) (drop released numbers) then None else held_by n w)) → IsEscrow new held (take (length numbers) numbers)
escrow_released w new held numbers released is left n =
    left n ∙ ap (λ o. if list_any (λ m. m == n) (drop released numbers) then None else o) (is n)
    ∙ sym (gone (take released numbers) (drop released numbers) n (slice_get held n))
    ∙ ap (λ ns. waiter_at ns n (slice_get held n)) (take-append-drop released numbers ∙ sym (take-length numbers))

pub escrow_cut : (w new : Escrow) (held : List Body) (done : List ℕ) (mark : ℕ) → IsEscrow w held done
    → ((n : ℕ) → held_by n new ≡ (if nat_le mark n && nat_lt n (length held) then None else held_by n w)) → IsEscrow new (take mark held) done
unfolding waiter_at
escrow_cut w new held done mark is left n = elim (cases_lt n mark) [
  | inl low ↦ (let out : nat_le mark n ≡ false = lt-leb mark n low in left n ∙ rw out (is n ∙ sym (ap (waiter_at done n) (in_front held mark n low))))
  | inr high ↦ let none = ap (waiter_at done n) (past_front held mark n high) in
      elim (cases_lt n (length held)) [
        | inl more ↦ (let in_it : nat_le mark n ≡ true = le-leb mark n high in let two : nat_lt n (length held) ≡ true = lt-ltb n (length held) more in left n ∙ rw (in_it, two) (sym none))
        | inr past ↦ (let one : nat_le mark n ≡ true = le-leb mark n high in let two : nat_lt n (length held) ≡ false = le-ltb n (length held) past in
            left n ∙ rw (one, two) (is n ∙ ap (waiter_at done n) (slice_get_past held n past) ∙ sym none))
      ]
]
