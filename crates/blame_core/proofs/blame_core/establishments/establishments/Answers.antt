use Rattle.std.proofs.Common.{◌∙◌, ap, subst, get_or, take}
use Rattle.std.specs.Prelude.{slice_get}
use Rattle.std.proofs.lemmas.List.{take_all}
use Rattle.validator_core.specs.ValidatorCore.View.{accepted_by}
use Rattle.journal.specs.Journal.Journals.{chosen}
use Rattle.blame_core.specs.BlameCore.Establishments.{ArePlaced}
use Rattle.blame_core.proofs.BlameCoreLemmas.Chosen.{followed, with_event, with_none, with_one, without_event}
use Rattle.blame_core.proofs.BlameCoreLemmas.Walks.{walk_none}
use Rattle.blame_core.proofs.blame_core.establishments.establishments.Goals as goal
use Rattle.blame_core.proofs.blame_core.establishments.establishments.Goals.{in-Some+in_ok-add_event, in_default}

pub loop-number-init : goal.loop-number-init
unfolding chosen
loop-number-init c = walk_none c.args.core.now.held (accepted_by c.args.core.now) c.new-lists.result.entries c.new-events.result.entries
    c.new-lists.ensures.empty c.new-events.ensures.empty

pub loop-number-preserved : goal.loop-number-preserved
loop-number-preserved c =
    let core = c.args.core.now in
    let held = core.held in
    let ns = c.accepted-number-items.result.now in
    let i = c.loop-number.number-index in
    let low = c.loop-number-test.true in
    elim c.match-event.branch [
      | in-Some+in_ok-add_event w ↦ (
          let found = with_event (slice_get held (get_or ns i 0)) w.in-Some.event.now w.in-Some.ensures in
          let b = found.0 in
          rw (w.lists-is, w.events-is, with_one held ns i low b found.1)
          (w.in_ok-add_event.ensures held (accepted_by core) (chosen held (take i ns)) b found.1 found.2
          (followed held ns i low core c.requires c.accepted-number-items.ensures.accepted b found.1) c.loop-number.invariant))
      | in_default w ↦ rw (w.lists-is, w.events-is, with_none held ns i low (without_event (slice_get held (get_or ns i 0)) w.in_default.ensures)) c.loop-number.invariant
    ]

pub returns : goal.returns
returns c =
    let held = c.args.core.now.held in
    let ns = c.accepted-number-items.result.now in
    subst (λ seen. ArePlaced held (accepted_by c.args.core.now) seen c.loop-number.events.entries)
    (ap (chosen held) (take_all c.loop-number.number-index ns c.loop-number-test.false) ∙ c.accepted-number-items.ensures.accepted) c.loop-number.invariant.placed
