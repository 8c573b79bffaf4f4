-- Seats for readers, of which there may be none.
use Rattle.std.specs.Prelude.{◌≡◌, ℕ, []}
use Rattle.journal.specs.declared.journal.mode.Mode.{Mode}
use Rattle.keri_outside.specs.declared.limits.Limits.{Limits}
use Rattle.validator_core.specs.ValidatorCore.View.{CoreView, told_of}
use Rattle.reader_hub.specs.ReaderThreads.Seats.{AreReady, HasSeats}
use Rattle.reader_hub.specs.declared.reader_threads.any_seats.AnySeats.{AnySeats}
use Rattle.reader_hub.specs.declared.reader_threads.any_seats.AnySeats.TheVariants.{Nobody, Readers}

-- the core was told nothing, and began with nothing
pub record IsNew (core : CoreView) : Type 0 where
  pub untold : told_of core ≡ []
  pub no_base : core.base ≡ 0

-- it has this mode and these limits
pub record IsNewOf (mode : Mode) (limits : Limits) (core : CoreView) : Type 0 where
  pub is_new : IsNew core
  pub mode_is : core.mode ≡ mode
  pub limits_are : core.limits ≡ limits

module _ {S V : Type 0} where
  -- a new core, or seats that are ready
  abbrev pub AreAnyReady : ℕ → AnySeats S V → Type 0
  AreAnyReady count (Nobody core) = (count ≡ 0) × IsNew core
  AreAnyReady count (Readers seats) = AreReady count seats

  -- so many at a core of this mode and these limits
  abbrev pub HaveSeats : Mode → Limits → ℕ → AnySeats S V → Type 0
  HaveSeats mode limits count (Nobody core) = (count ≡ 0) × IsNewOf mode limits core
  HaveSeats mode limits count (Readers seats) = HasSeats mode limits count seats
