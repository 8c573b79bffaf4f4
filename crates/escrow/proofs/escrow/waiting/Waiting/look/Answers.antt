use Rattle.std.proofs.Common.{sym, ap, ◌∙◌}
use Rattle.escrow.specs.Escrow.Escrow.{held}
use Rattle.escrow.proofs.EscrowLemmas.Held.{get-entries}
use Rattle.escrow.proofs.escrow.waiting.Waiting.look.Goals as goal

pub returns-clause-found : goal.returns-clause-found
returns-clause-found c =
    c.get.ensures.value ∙ sym (get-entries c.args.number c.self.inside.waiters.entries) ∙ ap (held c.args.number) c.self.view_is
