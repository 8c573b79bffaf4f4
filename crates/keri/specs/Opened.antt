-- What was opened: by which path, and how.
use Rattle.std.specs.Prelude.{◌≡◌, ℕ, List, IfSome, string_bytes}
use Rattle.std.specs.Option.{option_map}
use Rattle.keri.specs.declared.opened.Access.{Access}
use Rattle.keri.specs.declared.opened.Opened.{Opened}

-- the file, or the disk over it
abbrev pub what_opened : {T : Type 0} → Opened T → T
what_opened opened = opened.what

-- the path that is kept beside it, where one is, is this one, and so is the way that is kept; that it was opened so isn't said
pub record IsOpenedAt {T : Type 0} (path : List ℕ) (access : Access) (opened : Opened T) : Type 0 where
  pub by_path : IfSome (option_map string_bytes opened.path) (λ kept. kept ≡ path)
  pub so : opened.access ≡ access
