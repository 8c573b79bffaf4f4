-- What a call of a witness says, as a link needs it.
use Rattle.std.proofs.Common.{◌≡◌, ℕ, List, Option, Result, Ok, Err, refl, ◌∙◌, ◌||◌, false, Bool}
use Rattle.std.specs.Prelude.{IfErr, IfOk, MatchResult, OnOk}
use Rattle.cesr_codes.specs.declared.key.Key.{Key}
use Rattle.cesr_codes.specs.declared.sig.Sig.{Sig}
use Rattle.cesr_stream.specs.declared.message.Message.{Message}
use Rattle.validator_core.specs.Tables.View.{body_of}
use Rattle.journal.specs.Journal.Replies.{claims_of, is_full}
use Rattle.keri_outside.specs.declared.limits.Limits.{Limits}
use Rattle.validator_core.specs.ValidatorCore.View.{CoreView}
use Rattle.witness_core.specs.WitnessReceipts.Fates.{IsFate}
use Rattle.witness_core.specs.WitnessCore.Faults.{CausedBy, FullBy, Goes}
use Rattle.witness_core.specs.WitnessStore.Histories.{history_of}
use Rattle.witness_core.specs.WitnessCore.Outcomes.{AreReceipts, KeepsList, TellsFate}
use Rattle.witness_core.specs.WitnessStore.Room.{lacks_room}
use Rattle.witness_core.specs.WitnessCore.Telling.{IsTurnedAway, IsUntold, TellsFault, has_no_room}
use Rattle.witness_core.specs.declared.witness_core.outcome.Outcome.{Outcome}
use Rattle.witness_core.specs.declared.witness_store.witness_fault.WitnessFault.{WitnessFault}
use Rattle.witness_core.specs.declared.witness_store.witness_fault.WitnessFault.TheVariants.{DiskFault, SignerFault, VerifierFault, LimitReached, Broken, OutOfMemory}
use Rattle.witness_core.proofs.WitnessStoreLemmas.Entries.{history_same}
use Rattle.witness_core.specs.WitnessLink.Links.{WitnessShown, counts, terms_with}
use Rattle.witness_core.specs.WitnessLink.Taking.{IsWhole, TakesMessage}

-- a message that is turned away still is where nothing more was told and stored
turned_then : (limits : Limits) (old new : CoreView) (list list_then : List (List ℕ)) (m : Message) → IsTurnedAway limits old list m → IsUntold old new → list_then ≡ list → IsTurnedAway limits new list_then m
turned_then limits old new list list_then m away untold same =
    let b = body_of m.body away.event in
    let claims = claims_of m in
    let history : history_of new ≡ history_of old = history_same old new untold.follows untold.told in
    let still : has_no_room limits new list_then b claims ≡ has_no_room limits old list b claims
    = λ i. is_full (untold.follows.limits i) (untold.follows.bodies i) (untold.told i) b claims || lacks_room limits (history i) (same i) b claims in
    record { event = away.event; judged = away.judged; no_receipt = away.no_receipt; full = still ∙ away.full }

module _ (old new : WitnessShown) (says : Key → List ℕ → Sig → Option Bool) (gives : Key → List ℕ → Option Sig) (m : Message) (verifier verifier_then signer signer_then : ℕ) where
  abbrev Away : Type 0
  Away = IsTurnedAway old.limits old.core old.list m

  -- TAKEN: all that is said of a call of a witness that isn't broken
  pub taken_so : (result : Result Outcome WitnessFault) → Goes false new.broken result → MatchResult result (λ outcome. Away → ⊥) (FullBy Away)
      → (result ≡ Err LimitReached → (new.list ≡ old.list) × IsUntold old.core new.core)
      → MatchResult result (λ outcome. TellsFate says old.core m outcome.fate new.core) (λ why. TellsFault says old.core m why new.core)
      → IfOk result (λ outcome. IsFate old.key new.core m outcome.fate) → IfOk result (AreReceipts old.key gives old.core new.core m)
      → IfOk result (λ outcome. KeepsList outcome.fate old.list new.list) → (new.broken ≡ false → IsWhole new)
      → OnOk result (new.disk.faults ≡ old.disk.faults) → OnOk result (verifier_then ≡ verifier) → OnOk result (signer_then ≡ signer)
      → IfErr result (CausedBy old.disk.faults new.disk.faults verifier verifier_then signer signer_then)
      → TakesMessage (terms_with says gives old) (counts old.disk.faults verifier signer) (counts new.disk.faults verifier_then signer_then) m old new result
  taken_so (Ok outcome) goes full at_full told fate receipts keeps whole d v s caused = (
    record {
      room = full;
      tells = told;
      fate_is = fate;
      receipts_are = receipts;
      keeps = keeps;
      listed = (whole goes).listed;
    },
    whole goes,
    λ i. record { disk = d i; verifier = v i; signer = s i },
  )
  taken_so (Err DiskFault) goes full at_full told fate receipts keeps whole d v s caused = ((full, told), caused)
  taken_so (Err VerifierFault) goes full at_full told fate receipts keeps whole d v s caused =
      ((full, told, whole goes), caused)
  taken_so (Err SignerFault) goes full at_full told fate receipts keeps whole d v s caused =
      ((full, told.0, told.1, whole goes), caused)
  taken_so (Err LimitReached) goes full at_full told fate receipts keeps whole d v s caused =
      let same = at_full refl in (
        (turned_then old.limits old.core new.core old.list new.list m full same.1 same.0, same.1, same.0, whole goes),
        λ i. record { disk = caused.0 i; verifier = caused.1 i; signer = caused.2 i },
      )
  taken_so (Err OutOfMemory) goes full at_full told fate receipts keeps whole d v s caused =
      (told, λ i. record { disk = caused.0 i; verifier = caused.1 i; signer = caused.2 i })
  taken_so (Err Broken) goes full at_full told fate receipts keeps whole d v s caused = absurd goes
