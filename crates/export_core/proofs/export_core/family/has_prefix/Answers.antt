use Rattle.std.proofs.Common.{◌∙◌}
use Rattle.std.specs.List.{list_any}
use Rattle.export_core.proofs.ExportCoreLemmas.Following.{prefix_turns}
use Rattle.export_core.proofs.ExportCoreLemmas.Orders.{prefix_at}
use Rattle.export_core.proofs.export_core.family.has_prefix.Goals as goal

pub returns : goal.returns
returns c = c.contains.ensures ∙ (λ i. list_any (λ q. (prefix_at c.args.prefix.now q ∙ prefix_turns c.args.prefix.now q) i) c.args.family.now.keys)
