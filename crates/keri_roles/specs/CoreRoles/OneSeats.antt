-- A seat for one reader.
use Rattle.std.specs.Prelude.{◌≡◌, ◌<◌, ℕ, Bool, List, [], ◌∷◌, Option}
use Rattle.std.specs.Vec.{vec_capacity}
use Rattle.cesr_codes.specs.declared.key.Key.{Key}
use Rattle.cesr_codes.specs.declared.sig.Sig.{Sig}
use Rattle.keri_outside.specs.declared.inquiry.Inquiry.{Inquiry}
use Rattle.keri_outside.specs.declared.limits.Limits.{Limits}
use Rattle.journal.specs.declared.journal.mode.Mode.{Mode}
use Rattle.run_status.specs.RunStatus.Readers.{reader_seen}
use Rattle.reader_hub.specs.ReaderThreads.Given.{given_by}
use Rattle.reader_hub.specs.ReaderThreads.Seats.{AreReady, HasSeats}
use Rattle.reader_hub.specs.ReaderThreads.Told.{AllTold}
use Rattle.reader_hub.specs.declared.reader_threads.providers.Providers.{Providers}
use Rattle.keri_roles.specs.declared.core_roles.one_seat.OneSeat.{OneSeat}
use Rattle.keri_roles.specs.declared.core_roles.one_seat.ReadAlone.{ReadAlone}

-- there is one seat, and room for what its reader is given
pub record IsReady {S V : Type 0} (seat : OneSeat S V) : Type 0 where
  pub ready : AreReady 1 seat.seats
  pub none_yet : seat.room.items ≡ []
  pub room : 0 < vec_capacity seat.room

-- it is at a core of this mode and these limits
pub record IsOneSeat {S V : Type 0} (mode : Mode) (limits : Limits) (seat : OneSeat S V) : Type 0 where
  pub has : HasSeats mode limits 1 seat.seats
  pub ready : IsReady seat

-- the reader of the seat told the core all that it was given, and what it came to
abbrev pub ReadsAlone : {S V : Type 0} → (S → Option (List ℕ)) → (S → ℕ) → (V → Key → List ℕ → Sig → Option Bool) → (V → Option (List Inquiry)) → (V → ℕ) → OneSeat S V → Providers S V → ReadAlone S V → Type 0
ReadsAlone left faults says inquiries verifier_faults seat providers read = (mode : Mode) (limits : Limits) → IsOneSeat mode limits seat
    → AllTold mode limits (given_by left faults says inquiries verifier_faults providers ∷ []) (reader_seen left faults says inquiries verifier_faults read.reader ∷ []) read.rest read.core
