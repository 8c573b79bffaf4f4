-- What a run finds, owes and answers where it has no shelf.
use Rattle.std.specs.Prelude.{ℕ, true, List, []}
use Rattle.run_status.specs.declared.run_status.besides.Besides.{Besides}
use Rattle.run_status.specs.RunStatus.Status.{nothing_besides}
use Rattle.witness_core.specs.WitnessOpening.Lines.{old_text, shelf_text}
use Rattle.witness_core.specs.declared.witness_opening.fault.OpeningFault.{OpeningFault}
use Rattle.witness_core.specs.declared.witness_opening.fault.OpeningFault.TheVariants.{NotAShelf, NotAnOldShelf, DiskFault, LimitReached, OutOfMemory}

abbrev pub found_by : OpeningFault → Besides
found_by (NotAShelf place) = record nothing_besides { shelf_refused = true }
found_by (NotAnOldShelf place) = record nothing_besides { shelf_refused = true }
found_by DiskFault = record nothing_besides { disk_failed = true }
found_by LimitReached = record nothing_besides { shelf_full = true }
found_by OutOfMemory = nothing_besides

-- the line of a file that is no shelf; nothing is said of another fault
abbrev pub text_of : OpeningFault → List ℕ
text_of (NotAShelf place) = shelf_text place
text_of (NotAnOldShelf place) = old_text place
text_of DiskFault = []
text_of LimitReached = []
text_of OutOfMemory = []

abbrev pub status_by : OpeningFault → ℕ
status_by (NotAShelf place) = 3
status_by (NotAnOldShelf place) = 3
status_by DiskFault = 8
status_by LimitReached = 9
status_by OutOfMemory = 10
