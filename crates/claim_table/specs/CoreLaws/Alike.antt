-- States that differ in their live events alone.
use Rattle.std.specs.Prelude.{◌≡◌}
use Rattle.key_state.specs.States.{State}

-- the second is the first at another number of the log, with other events since
abbrev pub AreAlike : State → State → Type 0
AreAlike s t = record s { est_sn = t.est_sn; since = t.since } ≡ t
