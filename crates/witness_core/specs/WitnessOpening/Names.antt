-- What an outside shows of names, which no making changes.
use Rattle.std.specs.Prelude.{◌≡◌}
use Rattle.run_status.specs.RunOutside.Shown.{OutsideShown}

-- what the names stand for, and the limits, are the same
pub record KeepsNames (old new : OutsideShown) : Type 0 where
  pub sources : new.holds ≡ old.holds
  pub verdicts : new.says ≡ old.says
  pub signatures : new.gives ≡ old.gives
  pub disks : new.stored ≡ old.stored
  pub links : new.links ≡ old.links
  pub limits : new.limits ≡ old.limits
