use Rattle.witness_core.proofs.WitnessLinkLemmas.Closed.{from_none}
use Rattle.witness_core.proofs.witness_link.service.serve_link.Goals as goal

pub returns : goal.returns
returns g c = from_none c.args.limits _ _ _ _ c.new-notes.result.refused.items c.new-notes.result.seen.items _ c.serve_noting-close.result c.new-notes.ensures.refused c.new-notes.ensures.seen c.serve_noting-close.ensures
