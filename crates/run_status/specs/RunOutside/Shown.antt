-- What an outside tells, and what a making changes of it.
use Rattle.std.specs.Prelude.{◌≡◌, ℕ, Bool, List, [], ◌∷◌, ◌++◌, is_err}
use Rattle.std.specs.declared.option.Option.{Option}
use Rattle.std.specs.declared.option.Option.TheVariants.{None, Some}
use Rattle.std.specs.declared.result.Result.{Result}
use Rattle.lists.specs.KeriSpecs.Causes.{HasCause}
use Rattle.cesr_codes.specs.declared.key.Key.{Key}
use Rattle.cesr_codes.specs.declared.sig.Sig.{Sig}
use Rattle.run_status.specs.RunOutside.Files.{held_under}
use Rattle.keri_outside.specs.declared.limits.Limits.{Limits}
use Rattle.run_status.specs.declared.run_outside.making.Making.{Making}
use Rattle.run_status.specs.declared.run_outside.making.MakingKind.{MakingKind}
use Rattle.run_status.specs.declared.run_outside.mem_file.MemFile.{MemFile}

-- How often a making failed, what a source of each name holds, what a verifier of each name says of a key, a body and
-- a signature, the signature that a signer of each name gives of a key on a body, the bytes of the file that a disk of each
-- name is of, which are none where the file is new, the bytes of each link that comes at a door of each name, and the makings
-- so far, where that is shown, and the limits.
pub record OutsideShown : Type 0 where
  pub faults : ℕ
  pub holds : List ℕ → Option (List ℕ)
  pub says : List ℕ → Key → List ℕ → Sig → Option Bool
  pub gives : List ℕ → Key → List ℕ → Option Sig
  pub stored : List ℕ → Option (List ℕ)
  pub links : List ℕ → Option (List (List ℕ))
  pub makings : Option (List Making)
  pub limits : Limits

abbrev pub making : MakingKind → List ℕ → Bool → Making
making kind name failed = record { kind = kind; name = name; failed = failed }

-- One making came behind those of before. Where it is told afterwards, it was told before.
abbrev pub Grows : Option (List Making) → Option (List Making) → MakingKind → List ℕ → Bool → Type 0
Grows old None kind name failed = Unit {0}
Grows old (Some new) kind name failed = (makings : List Making) × (old ≡ Some makings) × (new ≡ makings ++ making kind name failed ∷ [])

-- A making was noted, and changed neither the names nor the limits. It failed only where the count rose.
pub record Makes {T E : Type 0} (kind : MakingKind) (name : List ℕ) (old new : OutsideShown) (result : Result T E) : Type 0 where
  pub noted : Grows old.makings new.makings kind name (is_err result)
  pub names : new.holds ≡ old.holds
  pub verdicts : new.says ≡ old.says
  pub signatures : new.gives ≡ old.gives
  pub disks : new.stored ≡ old.stored
  pub same_links : new.links ≡ old.links
  pub limits : new.limits ≡ old.limits
  pub cause : HasCause old.faults new.faults result

-- what an outside of these files, and no helpers, disks and doors, tells before anything was made
abbrev pub first_shown : List MemFile → Limits → OutsideShown
first_shown files limits = record {
  faults = 0;
  holds = held_under files;
  says = λ name key body sig. None;
  gives = λ name key body. None;
  stored = λ name. None;
  links = λ name. None;
  makings = Some [];
  limits = limits;
}
