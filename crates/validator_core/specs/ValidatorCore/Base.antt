-- Cores that begin with a list of texts.
use Rattle.std.specs.Prelude.{◌≡◌, ℕ, ◌≤◌, false, true, List, [], ◌∷◌, ◌++◌, length, map, None}
use Rattle.event_body.specs.declared.event_body.event.Event.{Event}
use Rattle.event_body.specs.EventBody.Judging.{SpellsEvent}
use Rattle.keri_outside.specs.declared.limits.Limits.{Limits}
use Rattle.validator_core.specs.Acceptance.Standing.{IsHeld, AreSoundTables}
use Rattle.validator_core.specs.Tables.View.{View, log_of}
use Rattle.journal.specs.declared.journal.body.Body.{Body}
use Rattle.journal.specs.declared.journal.mode.Mode.{Mode}
use Rattle.journal.specs.declared.journal.resume_fault.ResumeFault.{ResumeFault}
use Rattle.journal.specs.declared.journal.resume_fault.ResumeFault.TheVariants.{NotALog, OutOfMemory}
use Rattle.journal.specs.Journal.Grown.{fits}
use Rattle.journal.specs.Journal.Journals.{IsReading, first_unfit}
use Rattle.validator_core.specs.ValidatorCore.View.{CoreView}

-- the bytes spell the event, and aren't too many for a body
abbrev pub IsRead : Event → List ℕ → Type 0
IsRead event bytes = SpellsEvent event bytes × (length bytes ≤ 65535)

-- the texts are a log: each is an event that is new and follows those before it
pub record AreLog (texts : List (List ℕ)) (held : List Body) : Type 0 where
  pub reading : IsReading IsRead texts held
  pub fit : first_unfit 0 [] held ≡ None

-- a core that was told nothing, with these texts as its base
pub record IsResumed (mode : Mode) (limits : Limits) (texts : List (List ℕ)) (core : CoreView) : Type 0 where
  pub mode_is : core.mode ≡ mode
  pub limits_are : core.limits ≡ limits
  pub base : core.base ≡ length texts
  pub log : AreLog texts core.held
  pub entries : core.entries ≡ []

-- those before a text are a log, and the text is no event that fits behind them
pub record EndsAt (texts : List (List ℕ)) (n : ℕ) : Type 0 where
  pub before : List Body
  pub text : List ℕ
  pub rest : List (List ℕ)
  pub parted : texts ≡ map (λ b. b.bytes) before ++ text ∷ rest
  pub number : n ≡ length before
  pub log : AreLog (map (λ b. b.bytes) before) before
  pub unfit : (event : Event) → IsRead event text → fits before (record { bytes = text; event = event }) ≡ false

-- why texts aren't resumed
abbrev pub AreRefused : List (List ℕ) → ResumeFault → Type 0
AreRefused texts (NotALog n) = EndsAt texts n
AreRefused texts OutOfMemory = Unit {0}

-- why a text isn't added
abbrev pub IsRefused : List Body → List ℕ → ResumeFault → Type 0
IsRefused held text (NotALog n) = (n ≡ length held) × ((event : Event) → IsRead event text → fits held (record { bytes = text; event = event }) ≡ false)
IsRefused held text OutOfMemory = Unit {0}

-- tables that were told nothing, and have accepted all their bodies
pub record AreAccepted (v : View) : Type 0 where
  pub sound : AreSoundTables v
  pub untold : v.entries ≡ []
  pub idle : v.claims.pending ≡ None
  pub all : log_of v ≡ v.held

-- a text comes and is accepted as an event that fits
pub record AcceptsText (text : List ℕ) (old new : View) : Type 0 where
  pub body : Body
  pub bytes : body.bytes ≡ text
  pub is_held : IsHeld body
  pub fitting : fits old.held body ≡ true
  pub held : new.held ≡ old.held ++ body ∷ []
  pub accepted : AreAccepted new

-- tables that have accepted these texts
pub record IsBase (texts : List (List ℕ)) (v : View) : Type 0 where
  pub accepted : AreAccepted v
  pub log : AreLog texts v.held
