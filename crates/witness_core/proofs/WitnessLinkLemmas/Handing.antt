-- Messages that are handed to a link.
use Rattle.std.proofs.Common.{◌≡◌, ℕ, List, [], ◌∷◌, ◌++◌, Result, Ok, Err, refl, ◌∙◌, Option}
use Rattle.std.specs.Prelude.{IfErr, OnOk, false}
use Rattle.cesr_stream.specs.declared.message.Message.{Message}
use Rattle.shelf_log.proofs.KeriDiskLemmas.Moments.{KnowsNow}
use Rattle.run_status.specs.declared.run_status.close.Close.{Close}
use Rattle.witness_core.specs.WitnessStore.Storing.{AllStand}
use Rattle.witness_core.specs.WitnessLink.Links.{LinkShown, ServiceShown}
use Rattle.witness_core.specs.WitnessLink.Offered.{HasStopped, HasTaken, LendsSame, link_shown}
use Rattle.witness_core.specs.WitnessLink.Serving.{ServesOne}
use Rattle.witness_core.specs.WitnessLink.Stored.{IsLawfulList}
use Rattle.witness_core.specs.WitnessLink.Taking.{IsWhole}
use Rattle.witness_core.specs.declared.witness_link.link.Link.{Link}
use Rattle.witness_core.proofs.WitnessLinkLemmas.Chains.{ended_more, served_more, served_none}

module _ {W K : Type 0} (service_seen : W → ServiceShown) (written : K → Option (List ℕ)) (sink_faults : K → ℕ) where
  abbrev shown : Link W K → LinkShown
  shown link = link_shown service_seen written sink_faults link

  abbrev Taken : Link W K → Link W K → List Message → Type 0
  Taken first now messages = HasTaken service_seen written sink_faults first now messages

  abbrev Stopped : Link W K → Link W K → Close → List Message → Type 0
  Stopped first now close messages = HasStopped service_seen written sink_faults first now close messages

  -- nothing was handed to it yet
  pub taken_none : (link : Link W K) → IsWhole (service_seen link.service.now).witness
      → AllStand (service_seen link.service.now).witness.disk (service_seen link.service.now).witness.list (service_seen link.service.now).witness.list
      → IsLawfulList (service_seen link.service.now).witness.list → KnowsNow (service_seen link.service.now).witness.disk → Taken link link []
  taken_none link whole stand lawful knows = record {
    same = record { service = refl; sink = refl; notes = refl };
    served = served_none (shown link) whole stand lawful knows;
  }

  module _ (m : Message) (now new : Link W K) (same : LendsSame now new) where
    same_more : (first : Link W K) → LendsSame first now → LendsSame first new
    same_more first was = record { service = same.service ∙ was.service; sink = same.sink ∙ was.sink; notes = same.notes ∙ was.notes }

    -- the clauses of a taker
    pub takes_ok : (result : Result (Unit {0}) Close) → ((service_seen now.service.now).witness.broken ≡ false → ServesOne m result (shown now) (shown new))
        → OnOk result ((first : Link W K) (before : List Message) → Taken first now before → Taken first new (before ++ m ∷ []))
    takes_ok (Ok done) serves = λ first before taken. record {
      same = same_more first taken.same;
      served = served_more (shown first) (shown now) (shown new) before (m ∷ []) taken.served (serves taken.served.goes_on.is_whole.whole);
    }
    takes_ok (Err stop) serves = tt

    pub takes_err : (result : Result (Unit {0}) Close) → ((service_seen now.service.now).witness.broken ≡ false → ServesOne m result (shown now) (shown new))
        → IfErr result (λ stop. (first : Link W K) (before : List Message) → Taken first now before → Stopped first new stop (before ++ m ∷ []))
    takes_err (Ok done) serves = tt
    takes_err (Err stop) serves = λ first before taken. record {
      same = same_more first taken.same;
      ended = ended_more (shown first) (shown now) (shown new) stop before (m ∷ []) taken.served (serves taken.served.goes_on.is_whole.whole);
    }

  -- what is the same all along
  pub taken_same : (first now : Link W K) (messages : List Message) → Taken first now messages → LendsSame first now
  taken_same first now messages t = t.same
