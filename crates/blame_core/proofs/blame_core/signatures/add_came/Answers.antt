use Rattle.std.proofs.Common.{sym, ◌∙◌}
use Rattle.validator_core.specs.Tables.View.{body_of}
use Rattle.blame_core.proofs.BlameCoreLemmas.EntrySignatures.{none_came}
use Rattle.blame_core.proofs.blame_core.signatures.add_came.Goals as goal

pub returns-else-bears_on : goal.returns-else-bears_on
returns-else-bears_on c =
    none_came c.args.core.now.held (body_of c.args.text.now c.args.event.now) c.args.entry.now c.in-Took.reader c.in-Took.body c.in-Took.claims
    c.args.came.now.items c.in-Took.is (sym c.bears_on.ensures ∙ c.if-bears_on.false)
