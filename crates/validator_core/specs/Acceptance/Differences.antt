-- Bodies differ in at most one way.
use Rattle.std.specs.Prelude.{List, [], ◌∷◌}
use Rattle.std.specs.Coded.{×_prop, Unit-prop}
use Rattle.std.proofs.Math.Bool.{Bool-set}
use Rattle.journal.specs.declared.journal.body.Body.{Body}
use Rattle.journal.specs.Journal.Logs.{same_body}
use Rattle.journal.proofs.JournalLemmas.Different.{Differ}

pub Differ-prop : (held : List Body) → IsProp (Differ same_body held)
Differ-prop [] = Unit-prop
Differ-prop (b ∷ held) = ×_prop (Bool-set _ _) (Differ-prop held)
