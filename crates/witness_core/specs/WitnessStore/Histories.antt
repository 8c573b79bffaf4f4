-- What acceptance goes by.
use Rattle.std.specs.Prelude.{ℕ, List, [], ◌∷◌, ◌++◌}
use Rattle.journal.specs.declared.journal.body.Body.{Body}
use Rattle.journal.specs.declared.journal.mode.Mode.{Mode}
use Rattle.journal.specs.Journal.Accepted.{accepted}
use Rattle.journal.specs.Journal.History.{Told, bodies}
use Rattle.validator_core.specs.ValidatorCore.View.{CoreView, base_of, told_of}

-- how a core waits, how many bodies it began with, which they are, and what it was told
pub record History : Type 0 where
  pub mode : Mode
  pub based : ℕ
  pub base : List Body
  pub told : List Told

abbrev pub history_of : CoreView → History
history_of core = record { mode = core.mode; based = core.base; base = base_of core; told = told_of core }

-- the accepted events
abbrev pub log_in : History → List Body
log_in h = accepted h.mode h.base h.told

-- the bodies, each once, in order of first coming
abbrev pub bodies_in : History → List Body
bodies_in h = bodies h.base h.told

-- one entry more is told
abbrev pub told_more : History → Told → History
told_more h t = record h { told = h.told ++ t ∷ [] }
