-- Parts of the test of slots.
use Rattle.std.proofs.Common.{◌≡◌, true, ◌&&◌, List, length}
use Rattle.std.specs.Prelude.{nat_le}
use Rattle.std.specs.List.{list_all}
use Rattle.std.proofs.lemmas.Bool.{and_parts}
use Rattle.event_body.specs.declared.event_body.event.Event.{Event}
use Rattle.key_state.specs.Exposure.{own_rules}
use Rattle.key_state.specs.States.{State}
use Rattle.journal.specs.EventRules.Parts.{has_signed}
use Rattle.std.specs.Prelude.{Option}
use Rattle.controller_core.specs.declared.controller_core.slot.Slot.{Slot}
use Rattle.controller_core.specs.ControllerCore.Slots.{are_enough, is_in_range, slots_have}

module _ (s : Option State) (e : Event) (slots : List Slot) (enough : are_enough s e slots ≡ true) where
  parts : (nat_le (length slots) 4095 && list_all (is_in_range (length (own_rules s e).keys)) slots ≡ true) × (has_signed (slots_have s e slots) s e ≡ true)
  unfolding are_enough
  parts = and_parts (nat_le (length slots) 4095 && list_all (is_in_range (length (own_rules s e).keys)) slots) (has_signed (slots_have s e slots) s e) enough

  pub in_range : list_all (is_in_range (length (own_rules s e).keys)) slots ≡ true
  in_range = (and_parts (nat_le (length slots) 4095) (list_all (is_in_range (length (own_rules s e).keys)) slots) parts.0).1

  pub signed_by_slots : has_signed (slots_have s e slots) s e ≡ true
  signed_by_slots = parts.1
