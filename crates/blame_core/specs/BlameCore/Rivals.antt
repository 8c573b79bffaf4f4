-- What is said of an event of the first core and that of the same place of the second.
use Rattle.std.specs.Prelude.{◌≡◌, ◌≢◌, List, filter_map, Option, Some, None, slice_get}
use Rattle.event_body.specs.EventBody.Events.{prefix_of, sn_of}
use Rattle.key_state.specs.Same.{distinct, same_key}
use Rattle.journal.specs.declared.journal.body.Body.{Body}
use Rattle.blame_core.specs.BlameLaws.Signatures.{signature_of}
use Rattle.blame_core.specs.BlameCore.Culprits.{culprit_of}
use Rattle.blame_core.specs.BlameCore.Establishments.{event_at}
use Rattle.blame_core.specs.declared.blame_core.establishments.Establishment.{Establishment}
use Rattle.blame_core.specs.declared.blame_core.blames.Blame.{Blame}
use Rattle.blame_core.specs.declared.blame_core.place.Place.{Place}
use Rattle.validator_core.specs.ValidatorCore.View.{CoreView, told_of}

-- the blame of two bodies that differ: their place, their numbers, and the culprits
pub record IsAnswer (first second : CoreView) (one other : Establishment) (b c : Body) (x : Blame) : Type 0 where
  pub differ : b.bytes ≢ c.bytes
  pub prefix : x.prefix ≡ prefix_of b.event
  pub sn : x.sn ≡ sn_of b.event
  pub one_is : x.first ≡ one.number
  pub other_is : x.second ≡ other.number
  pub culprits : x.culprits ≡ filter_map (culprit_of other.witnesses (signature_of (told_of first) b) (signature_of (told_of second) c))
      (distinct same_key one.witnesses)

-- no blame where the bodies are the same, else that of both
abbrev pub AnswersOf : CoreView → CoreView → Establishment → Establishment → Body → Body → Option Blame → Type 0
AnswersOf first second one other b c None = b.bytes ≡ c.bytes
AnswersOf first second one other b c (Some x) = IsAnswer first second one other b c x

-- the same of the bodies that are held
abbrev pub Answers : CoreView → CoreView → Establishment → Establishment → Option Blame → Type 0
Answers first second one other judged = (b c : Body) → slice_get first.held one.number ≡ Some b → slice_get second.held other.number ≡ Some c
    → AnswersOf first second one other b c judged

-- of the event of the same place, where there is one
pub data Judges (first second : CoreView) (one : Establishment) (others : List (Place × Establishment)) (judged : Option Blame) : Type 0 where
  alone : event_at others one.place ≡ None → judged ≡ None → Judges first second one others judged
  beside : {other : Establishment} → event_at others one.place ≡ Some other → Answers first second one other judged → Judges first second one others judged
