use Rattle.std.proofs.Common.{take}
use Rattle.journal.specs.Journal.Journals.{chosen}
use Rattle.validator_core.specs.ValidatorCore.View.{accepted_by}
use Rattle.blame_core.specs.BlameCore.Establishments.{IsWalked}
use Rattle.blame_core.proofs.blame_core.establishments.establishments.Given as goal

-- the events so far are walked over
abbrev pub invariant-loop-number : goal.invariant-loop-number
invariant-loop-number l = let core = l.fn.core in
    IsWalked core.held (accepted_by core) (chosen core.held (take l.number-index l.number-items)) l.lists.entries l.events.entries
