-- What a core was told is in its journal.
use Rattle.std.proofs.Common.{◌≡◌, ◌≢◌, ℕ, Bool, false, List, [], Option, Some, None, refl, sym, subst, arith}
use Rattle.std.specs.Prelude.{All, map, option_map, is_none}
use Rattle.std.proofs.lemmas.List.Elements.{All-weaker}
use Rattle.event_body.specs.EventBody.Judging.{SpellsEvent}
use Rattle.keri_outside.specs.declared.limits.Limits.{Limits}
use Rattle.journal.specs.declared.journal.journal.Journal.{Journal}
use Rattle.journal.specs.declared.journal.mode.Mode.{Mode}
use Rattle.journal.specs.Journal.Accepted.{accepted}
use Rattle.journal.specs.Journal.Journals.{InOrder, told_by}
use Rattle.journal.specs.Journal.Questions.{IsRegular}
use Rattle.journal.specs.Journal.Readiness.{is_ready}
use Rattle.journal.specs.Journal.Replies.{IsWithin}
use Rattle.validator_core.specs.Acceptance.Standing.{IsHeld}
use Rattle.validator_core.specs.ValidatorCore.View.{CoreView, IsSoundCore, told_of}
use Rattle.validator_core.proofs.ValidatorCoreLemmas.OpenQuestions.{no_bodies}
use Rattle.run_status.specs.declared.run_status.besides.Besides.{Besides}
use Rattle.run_status.specs.declared.run_status.close.Close.{Close}
use Rattle.run_status.specs.declared.run_status.close.Close.TheVariants.{OutOfMemory}
use Rattle.run_status.specs.RunStatus.Readers.{Reader}
use Rattle.reader_hub.specs.declared.reader_threads.last_round.LastRound.{LastRound}
use Rattle.reader_hub.specs.ReaderThreads.Given.{Given}
use Rattle.reader_hub.specs.ReaderThreads.Told.{AllTold}
use Rattle.keri_roles.specs.CoreRoles.CoreTold.{AreSettled, IsJournalOf, IsToldBy, OwesText, core_of, plain}
use Rattle.keri_roles.specs.CoreRoles.Work.{Owes}
use Rattle.keri_roles.proofs.CoreRolesLemmas.Complete.{is_complete}

-- a core without entries was told nothing
pub untold : (core : CoreView) → core.entries ≡ [] → told_of core ≡ []
unfolding told_by
untold core none = rw none refl

-- what is true of a core that began with nothing
pub regular_of : (core : CoreView) → core.base ≡ 0 → IsSoundCore core → IsRegular core.mode [] (told_of core)
regular_of core b stands = subst (λ bodies. IsRegular core.mode bodies (told_of core)) (no_bodies core b) stands.regular

pub within_of : (core : CoreView) → core.base ≡ 0 → IsSoundCore core → IsWithin core.limits [] (told_of core)
within_of core b stands = let none = no_bodies core b in let within = rw none at stands.within in within (omega arith)

pub settled_of : (core : CoreView) (mode : Mode) → core.base ≡ 0 → core.mode ≡ mode → IsSoundCore core → AreSettled mode core.held (told_of core)
settled_of core mode b m stands =
    let none : All (λ c. is_ready core.mode (told_of core) (accepted core.mode [] (told_of core)) c ≡ false) core.held
    = subst (λ bodies. All (λ c. is_ready core.mode (told_of core) (accepted core.mode bodies (told_of core)) c ≡ false) core.held) (no_bodies core b) stands.settled in
    subst (λ x. All (λ c. is_ready x (told_of core) (accepted x [] (told_of core)) c ≡ false) core.held) m none

-- the journal of a core
abbrev pub journal_of : CoreView → Journal
journal_of core = record { bodies = map (λ b. b.bytes) core.held; entries = core.entries }

pub same_journal : (core : CoreView) (journal : Journal) → IsJournalOf core journal → journal ≡ journal_of core
same_journal core journal of = rw (sym of.bodies, sym of.entries) refl

-- what a core was told is in its journal
abbrev pub is_told_by : (mode : Mode) (limits : Limits) (given : List Given) (readers : List Reader) (rest : LastRound) (core : CoreView)
    → AllTold mode limits given readers rest core → IsToldBy mode limits given readers rest (journal_of core)
is_told_by mode limits given readers rest core t = record {
  read = t.read.read;
  fed = record {
    held = core.held;
    reading = record { bytes_are = refl; spelled = All-weaker IsHeld (λ b. SpellsEvent b.event b.bytes) (λ b h. h.spelled) core.held t.sound.spelled };
    in_order = subst (λ n. InOrder n core.held core.entries) t.no_base t.sound.in_order;
    all_held = t.sound.all_held;
    fed = t.read.fed;
  };
  each = t.read.each;
  asked = t.asked;
  failed = t.failed;
  only = t.only;
  alone = t.alone;
  regular = subst (λ m. IsRegular m [] (told_of core)) t.mode_is (regular_of core t.no_base t.sound);
  within = subst (λ l. IsWithin l [] (told_of core)) t.limits_are (within_of core t.no_base t.sound);
  settled = settled_of core mode t.no_base t.mode_is t.sound;
  complete = is_complete mode limits given readers rest core t;
}

-- what is owed is this text, and unless there was no memory that is such a text
pub owes_it : (is_text : List ℕ → Type 0) (owed : Option (List ℕ)) (close : Close) (text : List ℕ) → Owes owed close (λ t. t ≡ text)
    → (close ≢ OutOfMemory → is_text text) → Owes owed close is_text
owes_it is_text None close text o made = o
owes_it is_text (Some t) close text o made = (o.0, rw o.1 (made o.0))

-- what is seen is there where its object is
pub seen_none : {A B : Type 0} (f : A → B) (o : Option A) → is_none (option_map f o) ≡ is_none o
seen_none f None = refl
seen_none f (Some x) = refl

-- what is owed of a core is so of it by its bodies and its entries
pub owes_plain : (is_text : CoreView → List Reader → List ℕ → Bool → Type 0) (finds : Bool → Besides) (door_failed : Bool) (mode : Mode) (limits : Limits) (core : CoreView) (readers : List Reader) (rest : LastRound)
    (owed : Option (List ℕ)) (besides : Besides) → core.mode ≡ mode → core.limits ≡ limits → core.base ≡ 0
    → OwesText is_text finds door_failed (plain core) readers rest owed besides → OwesText is_text finds door_failed (core_of mode limits core.held core.entries) readers rest owed besides
owes_plain is_text finds door_failed mode limits core readers rest owed besides m l b o = record {
  is_found = o.is_found;
  owes = rw (m, l, b) at o.owes;
  nothing_else = o.nothing_else;
}
