-- Makings that come one after another.
use Rattle.std.specs.Prelude.{◌≡◌, Bool, true, false, List, ◌++◌}
use Rattle.std.specs.List.{list_any}
use Rattle.std.specs.declared.option.Option.{Option}
use Rattle.std.specs.declared.option.Option.TheVariants.{None, Some}
use Rattle.lists.specs.KeriSpecs.Causes.{Rose}
use Rattle.run_status.specs.RunOutside.Shown.{OutsideShown}
use Rattle.run_status.specs.declared.run_outside.making.Making.{Making}

-- these makings came behind those of before, where they are told
abbrev pub Noted : Option (List Making) → Option (List Making) → List Making → Type 0
Noted old None makings = Unit {0}
Noted old (Some new) makings = (earlier : List Making) × (old ≡ Some earlier) × (new ≡ earlier ++ makings)

abbrev pub some_failed : List Making → Bool
some_failed makings = list_any (λ m. m.failed) makings

-- These are the makings that came, in order, and there are no others. The count rose where one failed, and stood still where none did.
pub record AreMakings (makings : List Making) (before after : OutsideShown) : Type 0 where
  pub noted : Noted before.makings after.makings makings
  pub rose : some_failed makings ≡ true → Rose before.faults after.faults
  pub kept : some_failed makings ≡ false → after.faults ≡ before.faults
