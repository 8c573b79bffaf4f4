-- How long the payload of an accepted event is.
use Rattle.std.proofs.Common.{◌≡◌, ◌≤◌, ◌+◌, ℕ, List, length, slice_get, Some, ◌∙◌, ap, arith, inl, inr, length-append}
use Rattle.std.proofs.lemmas.Bool.{cases_lt}
use Rattle.std.proofs.lemmas.List.{nil_from_length}
use Rattle.validator_core.specs.Acceptance.Standing.{IsHeld}
use Rattle.cesr_codes.specs.declared.indexed_sig.IndexedSig.{IndexedSig}
use Rattle.event_body.specs.EventBody.Judging.{SpellsEvent}
use Rattle.event_body.specs.declared.event_body.event.Event.{Event}
use Rattle.journal_views.specs.EventPayload.Kept.{kept}
use Rattle.journal_views.specs.EventPayload.Payloads.{groups_text, parts_of}
use Rattle.journal_views.proofs.EventPayloadLemmas.Few.{kept_few, kept_no_more}
use Rattle.journal_views.proofs.EventPayloadLemmas.Sizes.{payload_long, payload_sized}
use Rattle.journal_views.proofs.EventPayloadLemmas.Written.{some_bytes}
use Rattle.journal.specs.declared.journal.body.Body.{Body}
use Rattle.journal.proofs.JournalLemmas.Places.{all_at}
use Rattle.key_state.specs.Kept.{IsKept}
use Rattle.shelf_log.specs.ShelfLog.Format.{IsSized}
use Rattle.shelf_log.specs.declared.shelf_log.version.Version.TheVariants.{Two}
use Rattle.validator_core.specs.ValidatorCore.View.{CoreView, accepted_by, told_of}
use Rattle.witness_core.specs.WitnessStore.Payloads.{payload_now}
use Rattle.witness_core.specs.WitnessStore.Room.{IsKnown, weight}
use Rattle.witness_core.proofs.WitnessStoreLemmas.States.{under_is}
use Rattle.witness_core.proofs.WitnessStoreLemmas.Waits.{chosen_at}

module _ (core : CoreView) (known : IsKnown core) (spelled : (event : Event) (bytes : List ℕ) → SpellsEvent event bytes → IsKept event) (place : ℕ) (b : Body) (at : slice_get (accepted_by core) place ≡ Some b) where
  pub held : IsHeld b
  held = let found = chosen_at core.held core.accepted known.held place b (ap (λ l. slice_get l place) known.accepted ∙ at) in all_at IsHeld core.held known.sound.spelled found.0 b found.2

  abbrev sigs : List IndexedSig
  sigs = kept (told_of core) (accepted_by core) b

  few : length sigs ≤ 4160
  few = kept_few (told_of core) (accepted_by core) b (spelled b.event b.bytes held.spelled) (λ s e. under_is core known spelled b s e)

  some : 1 ≤ length b.bytes
  some = elim (cases_lt 0 (length b.bytes)) [
    | inl more ↦ omega (arith, more)
    | inr none ↦ absurd (some_bytes b.event b.bytes held.spelled.has (nil_from_length b.bytes (omega (arith, none))))
  ]

  -- it can stand in a record
  pub sized : IsSized Two (payload_now (told_of core) (accepted_by core) b)
  sized = (omega (arith, some, length-append b.bytes (groups_text (parts_of sigs))), omega (arith, payload_sized b.bytes sigs held.few few))

  -- and with its record needs no more than is reserved for it
  pub within : 5 + length (payload_now (told_of core) (accepted_by core) b) ≤ weight (told_of core) b
  within = omega (arith, payload_long b.bytes sigs few, kept_no_more (told_of core) (accepted_by core) b)
