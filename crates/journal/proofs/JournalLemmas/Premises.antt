-- What laws ask of lists and journals holds of what has nothing in it.
use Rattle.std.proofs.Common.{[], ◌∷◌}
use Rattle.journal.specs.declared.journal.mode.Mode.{Mode}
use Rattle.journal.specs.Journal.Questions.{IsRegular}
use Rattle.journal.specs.Journal.Grown.{IsGrown}

-- an empty log is grown
pub nothing_grown : IsGrown []
nothing_grown [] later b e = cc
nothing_grown (c ∷ before) later b e = cc

-- a journal without verdicts is regular
pub regular_nothing : (mode : Mode) → IsRegular mode [] []
regular_nothing mode [] later reader b key sig verdict e = cc
regular_nothing mode (t ∷ earlier) later reader b key sig verdict e = cc
