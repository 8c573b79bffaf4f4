use Rattle.std.proofs.Common.{◌∙◌, ap}
use Rattle.std.specs.List.{list_any}
use Rattle.journal.specs.Journal.Seals.{seals}
use Rattle.event_backing.specs.EventSeals.{is_seal}
use Rattle.event_backing.proofs.seal_search.holds_seal_of.Goals as goal

pub returns : goal.returns
unfolding seals
returns c = c.holds.ensures ∙ ap (list_any (is_seal c.args.prefix.now c.args.sn c.args.said.now)) c.anchors.ensures
