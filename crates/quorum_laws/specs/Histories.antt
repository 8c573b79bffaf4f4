-- Signing histories: which keys signed which bodies, whoever asked them to (KERI paper: first seen, always seen, never unseen).
use Rattle.std.specs.Prelude.{◌≡◌, ℕ, Bool, true, false, ◌&&◌, List, bytes_eq, Contains}
use Rattle.std.specs.List.{list_any}
use Rattle.cesr_codes.specs.declared.key.Key.{Key}
use Rattle.event_body.specs.declared.event_body.event.Event.{Event}
use Rattle.event_body.specs.EventBody.Events.{prefix_of, sn_of, is_establishment}
use Rattle.event_body.specs.EventBody.Judging.{SpellsEvent}
use Rattle.key_state.specs.Same.{same_key, has_key}
use Rattle.journal.specs.declared.journal.body.Body.{Body}

-- a key signed a body, the body by its bytes
pub record Signing : Type 0 where
  pub key : Key
  pub body : List ℕ

-- the key signed the body
abbrev pub did_sign : List Signing → Body → Key → Bool
did_sign history b key = list_any (λ s. same_key s.key key && bytes_eq s.body b.bytes) history

-- both are establishment events, of one identifier and number
pub record AreLevel (e f : Event) : Type 0 where
  pub first_sets_keys : is_establishment e ≡ true
  pub second_sets_keys : is_establishment f ≡ true
  pub prefix : prefix_of e ≡ prefix_of f
  pub sn : sn_of e ≡ sn_of f

-- No key but a bad one signed two different establishment events of one identifier and number. Interactions are left out,
-- since a rotation may take their place.
abbrev pub IsLawful : List Signing → List Key → Type 0
IsLawful history bad = (s t : Signing) (e f : Event) → Contains history s → Contains history t
    → s.key ≡ t.key → has_key bad s.key ≡ false
    → SpellsEvent e s.body → SpellsEvent f t.body → AreLevel e f → s.body ≡ t.body
