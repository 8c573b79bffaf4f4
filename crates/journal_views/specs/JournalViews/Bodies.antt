-- Bodies that are held as lists of their parts.
use Rattle.std.specs.Prelude.{◌≡◌, ℕ, List, map}
use Rattle.event_body.specs.declared.event_body.event.Event.{Event}
use Rattle.journal.specs.declared.journal.body.Body.{Body}

-- the bodies of these texts, with these events
pub record AreBodiesOf (texts : List (List ℕ)) (events : List Event) (held : List Body) : Type 0 where
  pub bytes_are : map (λ b. b.bytes) held ≡ texts
  pub events_are : map (λ b. b.event) held ≡ events
