-- What is found of bodies while they go over one by one from what was found to what is.
use Rattle.std.specs.Prelude.{ℕ, ◌==◌, List, if◌then◌else◌}
use Rattle.std.specs.List.{list_any}
use Rattle.journal.specs.declared.journal.body.Body.{Body}
use Rattle.journal.specs.EventRules.Parts.{Row as Found}

-- of the bodies of these numbers what is found now, of the others what was
abbrev pub turned : (ℕ → Body → List Found) → (ℕ → Body → List Found) → List ℕ → ℕ → Body → List Found
turned was now done n b = if list_any (λ m. m == n) done then now n b else was n b
