use Rattle.std.proofs.Common.{◌≡◌, ◌+◌}
use Rattle.event_body.specs.EventBody.Events.{said_of}
use Rattle.controller_core.specs.LogMaker.Behind.{prior_before}
use Rattle.controller_core.specs.LogMaker.Plans.{event_at}
use Rattle.controller_core.proofs.LogMakerLemmas.Chain.{prior_before-more}
use Rattle.controller_core.proofs.log_maker.log.Log.behind.Goals as goal

pub invariant_of-result : goal.invariant_of-result
invariant_of-result c =
    let next = c.args.self.now.next in
    let prior : prior_before next.seed next.log (next.sn + 1) ≡ said_of (event_at next.seed next.log next.sn) = prior_before-more next.seed next.log next.sn in
    record {
      first_is = cc (c.first_with.ensures, c.next.ensures.of.0, c.next.ensures.of.1, c.next.ensures.sn);
      prior_is = cc (prior, c.requires.said, c.next.ensures.of.0, c.next.ensures.of.1, c.next.ensures.sn);
    }
