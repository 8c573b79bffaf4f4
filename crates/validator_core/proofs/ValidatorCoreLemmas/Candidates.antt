-- The waiting events with the digest that a body names are found in the escrow: those that an entry of the body names are among
-- them.
use Rattle.std.proofs.Common.{◌≡◌, ℕ, true, false, ◌&&◌, ◌||◌, ◌==◌, List, length, Option, Some, None, refl, sym, ◌∙◌, ap, inl, inr, take}
use Rattle.std.proofs.Math.Seq.{take-length}
use Rattle.std.specs.Prelude.{◌↔◌, Contains, slice_get}
use Rattle.std.specs.List.{list_any}
use Rattle.std.specs.List.Sorted.{IsStrictlySortedBy}
use Rattle.std.specs.Ordering.{nat_cmp}
use Rattle.std.specs.Cmp.Lexicographic.{bytes_decides}
use Rattle.std.proofs.lemmas.Bool.{and_from, and_parts, cases_Bool, or_cases, or_parts}
use Rattle.cesr_codes.specs.declared.digest.Digest.{Digest}
use Rattle.escrow.specs.Escrow.Escrow.{Escrow, Waits}
use Rattle.escrow.specs.declared.escrow.waiter.Waiter.{Waiter}
use Rattle.event_body.specs.EventBody.Events.{is_receipt, prefix_of, said_of, sn_of}
use Rattle.key_state.specs.Same.{same_digest, same_prefix}
use Rattle.validator_core.specs.Acceptance.Standing.{AreSoundTables}
use Rattle.claim_table.proofs.CoreLawsLemmas.States.{same_digest_is, same_itself}
use Rattle.claim_table.specs.CoreLaws.Waking.{is_waiting}
use Rattle.validator_core.specs.Tables.Hints.{IsEscrow}
use Rattle.validator_core.specs.Tables.View.{View, log_of, waiter_at, waiter_of}
use Rattle.validator_core.proofs.TablesLemmas.Rows.{not_some, some_is}
use Rattle.journal.specs.declared.journal.body.Body.{Body}
use Rattle.journal.specs.Journal.History.{is_receipt_for}
use Rattle.journal.specs.Journal.Logs.{same_body}
use Rattle.journal.proofs.JournalLemmas.Places.{one_body}
use Rattle.validator_core.proofs.AcceptanceLemmas.Bodies.{waits_is}
use Rattle.validator_core.proofs.TableChangesLemmas.Waking.{waits_there}
use Rattle.validator_core.specs.ValidatorCore.Tables.{HaveNoOthers, HaveNumbers}

-- a receipt has the digest of what it is for
said_same : (r b : Body) → is_receipt_for r b ≡ true → said_of r.event ≡ said_of b.event
said_same r b h =
    let one = and_parts (is_receipt r.event && same_digest (said_of r.event) (said_of b.event) && same_prefix (prefix_of r.event) (prefix_of b.event)) (sn_of r.event == sn_of b.event) h in
    let two = and_parts (is_receipt r.event && same_digest (said_of r.event) (said_of b.event)) (same_prefix (prefix_of r.event) (prefix_of b.event)) one.0 in
    same_digest_is (said_of r.event) (said_of b.event) (and_parts (is_receipt r.event) (same_digest (said_of r.event) (said_of b.event)) two.0).1

-- what a waiter is of
out_of : (done : List ℕ) (n : ℕ) (o : Option Body) (w : Waiter) → waiter_at done n o ≡ Some w
    → (b : Body) × (o ≡ Some b) × (w ≡ waiter_of n b.event) × ((is_receipt b.event || list_any (λ m. m == n) done) ≡ false)
unfolding waiter_at
out_of done n None w e = absurd (not_some w e)
out_of done n (Some b) w e = elim (cases_Bool (is_receipt b.event || list_any (λ m. m == n) done)) [
  | inl k ↦ (let none : None ≡ Some w = rw k at e in absurd (not_some w none))
  | inr k ↦ (let some : Some (waiter_of n b.event) ≡ Some w = rw k at e in (b, refl, sym (some_is (waiter_of n b.event) w some), k))
]

module _ (v : View) (stands : AreSoundTables v) (number : ℕ) where
  module _ (c : Body) (at_c : slice_get v.held number ≡ Some c) where
    -- what an entry of a body names has the digest that the body names
    named_said : (m n : ℕ) (d b : Body) → m ≡ number → slice_get v.held m ≡ Some d → slice_get v.held n ≡ Some b → (same_body d b || is_receipt_for d b) ≡ true → said_of c.event ≡ said_of b.event
    named_said m n d b here at_d at_b named =
        let same : c ≡ d = some_is c d (sym at_c ∙ ap (slice_get v.held) (sym here) ∙ at_d) in
        elim (or_cases (same_body d b) (is_receipt_for d b) named) [
          | inl one ↦ (let is : d ≡ b = one_body v.held stands.differ m n d b at_d at_b ((bytes_decides d.bytes b.bytes).0 one) in ap (λ x. said_of x.event) (same ∙ is))
          | inr for ↦ ap (λ x. said_of x.event) same ∙ said_same d b for
        ]

    module _ (escrow : Escrow) (is : IsEscrow escrow v.held (take v.released v.log.numbers)) (said : Digest) (said_is : said ≡ said_of c.event) (due numbers : List ℕ)
        (those : (n : ℕ) → Contains numbers n ↔ Waits n (λ w. w.said ≡ said) escrow) (all : (n : ℕ) → Contains due n ↔ Contains numbers n) where
      -- NAMED
      pub have_numbers : HaveNumbers v number due
      have_numbers m n d b here at_d at_b waits named =
          let there = waits_there escrow v.held v.released v.log.numbers n b is at_b waits in
          (all n).1 ((those n).1 (waiter_of n b.event, there, sym (said_is ∙ named_said m n d b here at_d at_b named)))

      -- NO OTHERS
      pub have_no_others : v.released ≡ length v.log.numbers → IsStrictlySortedBy nat_cmp due → HaveNoOthers v number due
      have_no_others left rising = record {
        rising = rising;
        waits = λ x n at_x has.
            (let same : x ≡ c = some_is x c (sym at_x ∙ at_c) in
            let w = (those n).0 ((all n).0 has) in
            let out = out_of (take v.released v.log.numbers) n (slice_get v.held n) w.0 (sym (is n) ∙ w.1) in
            let b = out.0 in
            let whole : take v.released v.log.numbers ≡ v.log.numbers = ap (λ k. take k v.log.numbers) left ∙ take-length v.log.numbers in
            let parts = or_parts (is_receipt b.event) (list_any (λ m. m == n) (take v.released v.log.numbers)) out.3 in
            let event = parts.0 in
            let undone : list_any (λ m. m == n) v.log.numbers ≡ false = ap (list_any (λ m. m == n)) (sym whole) ∙ parts.1 in
            let waits : is_waiting (log_of v) b ≡ true = sym (waits_is v stands n b out.1) ∙ rw (event, undone) refl in
            let named : said_of x.event ≡ said_of b.event = ap (λ y. said_of y.event) same ∙ sym said_is ∙ sym w.2 ∙ ap (λ y. y.said) out.2 in
            let digest : same_digest (said_of b.event) (said_of x.event) ≡ true = ap (same_digest (said_of b.event)) named ∙ same_itself (said_of b.event) in
            (b, out.1, and_from (is_waiting (log_of v) b) (same_digest (said_of b.event) (said_of x.event)) waits digest));
      }

  -- a number that isn't held names nothing
  module _ (out : (c : Body) → slice_get v.held number ≡ Some c → ⊥) where
    pub no_numbers : (due : List ℕ) → HaveNumbers v number due
    no_numbers due m n d b here at_d at_b waits named = absurd (out d (ap (slice_get v.held) (sym here) ∙ at_d))

    pub none_but : (due : List ℕ) → IsStrictlySortedBy nat_cmp due → HaveNoOthers v number due
    none_but due rising = record { rising = rising; waits = λ x n at_x has. absurd (out x at_x) }
