-- What a journal of bodies and numbers tells: with the event of each body, the rest is computed.
use Rattle.std.specs.Prelude.{◌≡◌, ℕ, ◌+◌, ◌<◌, Bool, List, [], ◌∷◌, ◌++◌, length, map, take, filter_map, slice_get, Option, Some, None, option_map, All, if◌then◌else◌}
use Rattle.event_body.specs.declared.event_body.event.Event.{Event}
use Rattle.journal.specs.declared.journal.entry.Entry.{Entry}
use Rattle.journal.specs.declared.journal.entry.Entry.TheVariants.{Took, Heard}
use Rattle.journal.specs.declared.journal.mode.Mode.{Mode}
use Rattle.event_body.specs.EventBody.Events.{prefix_of, sn_of}
use Rattle.journal.specs.declared.journal.conflict.Conflict.{Conflict}
use Rattle.journal.specs.declared.journal.question.Question.{Question}
use Rattle.journal.specs.declared.journal.question.Noted.{Noted}
use Rattle.journal.specs.declared.journal.question.Noted.TheVariants.{Unasked}
use Rattle.journal.specs.Journal.Logs.{Body}
use Rattle.journal.specs.Journal.History.{Told, took, heard, bodies, Triple}
use Rattle.journal.specs.Journal.Grown.{fits}
use Rattle.journal.specs.Journal.CoreCalls.{Answers}
use Rattle.journal.specs.Journal.Accepted.{accepted}

-- an entry with its whole body, where its number is held
abbrev pub whole : List Body → Entry → Option Told
whole held (Took reader n claims) = option_map (λ b. took reader b claims) (slice_get held n)
whole held (Heard reader n key sig verdict) = option_map (λ b. heard reader b key sig verdict) (slice_get held n)

-- what the entries tell
unfoldable pub told_by : List Body → List Entry → List Told
told_by held entries = filter_map (whole held) entries

-- the bodies of the numbers
unfoldable pub chosen : List Body → List ℕ → List Body
chosen held numbers = filter_map (λ n. slice_get held n) numbers

-- the triple that a question names, where its body is held
abbrev pub asked : List Body → Question → Option Triple
asked held q = option_map (λ b. record { body = b.bytes; key = q.key; sig = q.sig }) (slice_get held q.body)

-- the question names the triple, or neither is there
abbrev pub Names : List Body → Option Question → Option Triple → Type 0
Names held None None = Unit {0}
Names held (Some q) (Some t) = asked held q ≡ Some t
Names held (Some q) None = ⊥
Names held None (Some t) = ⊥

-- the reading of a journal's bodies: each with an event that its bytes spell
pub record IsReading (spells : Event → List ℕ → Type 0) (texts : List (List ℕ)) (held : List Body) : Type 0 where
  pub bytes_are : map (λ b. b.bytes) held ≡ texts
  pub spelled : All (λ b. spells b.event b.bytes) held

-- what becomes of a verdict on a question, where its body is held; no other question is raised
abbrev pub AnswersOn : Mode → List Body → List Told → ℕ → Option Body → Question → Bool → Noted → List Told → Type 0
AnswersOn mode base old reader None q verdict answer new = (answer ≡ Unasked) × (new ≡ old)
AnswersOn mode base old reader (Some b) q verdict answer new = Answers mode base old reader b q.key q.sig verdict answer new

-- the place of the first body that isn't an event, comes again or doesn't follow those before it, or none where the
-- bodies are a log
abbrev pub first_unfit : ℕ → List Body → List Body → Option ℕ
first_unfit place before [] = None
first_unfit place before (b ∷ bodies) =
    if fits before b then first_unfit (place + 1) (before ++ b ∷ []) bodies else Some place

-- the conflicts name these bodies, each with the place of its bodies
pub record NameConflicts (held : List Body) (conflicts : List Conflict) (sets : List (List Body)) : Type 0 where
  pub bodies_are : map (λ c. chosen held c.bodies) conflicts ≡ sets
  pub all_held : All (λ c. All (λ n. n < length held) c.bodies) conflicts
  pub places_are : All (λ c. All (λ b. (prefix_of b.event ≡ c.prefix) × (sn_of b.event ≡ c.sn)) (chosen held c.bodies))
      conflicts

-- the bodies stand once each, in order of first coming, those of the base first
abbrev pub InOrder : ℕ → List Body → List Entry → Type 0
InOrder base held entries = held ≡ bodies (take base held) (told_by held entries)

-- what a core with so many bodies as its base has accepted
abbrev pub accepted_of : Mode → ℕ → List Body → List Entry → List Body
accepted_of mode base held entries = accepted mode (take base held) (told_by held entries)
