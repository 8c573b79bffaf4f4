-- The parts that a claim adds to the support of its event.
use Rattle.std.specs.Prelude.{ℕ, Bool, false, ◌==◌, Option, Some, None}
use Rattle.journal.specs.EventRules.Parts.{Part, index, reveal, backer}
use Rattle.journal.specs.declared.event_rules.additions.Additions.{Additions}

-- it is this number, where there is one
abbrev pub is_number : Option ℕ → ℕ → Bool
is_number None n = false
is_number (Some m) n = m == n

-- the part is among those that are added
abbrev pub adds : Additions → Part → Bool
adds a (index n) = is_number a.index n
adds a (reveal n) = is_number a.reveal n
adds a (backer n) = is_number a.backer n
