use Rattle.std.proofs.Common.{sym, ◌∙◌}
use Rattle.journal.proofs.JournalLemmas.Places.{some_at}
use Rattle.witness_core.proofs.WitnessReceiptsLemmas.FateSteps.{some_reason}
use Rattle.witness_core.proofs.witness_receipts.fate.fate_of_waiting.Goals as goal

pub unreachable-requires-in-None : goal.unreachable-requires-in-None
unreachable-requires-in-None c =
    let core = c.args.core.now in
    let b = some_at core.held c.args.number c.requires.held in
    some_reason core c.args.number b.0 b.1 c.sound.ensures.sound (c.requires.event b.0 b.1) (c.requires.waits b.0 b.1) (sym c.in-None.is ∙ c.why_waits.ensures)
