-- Slots: what signatures in them would add up to, and whether that is enough (KERI: signing thresholds, pre-rotation).
use Rattle.std.specs.Prelude.{ℕ, Bool, true, false, ◌&&◌, ◌==◌, not, nat_lt, nat_le, List, length, slice_get, Option, Some, None}
use Rattle.std.specs.List.{list_any, list_all}
use Rattle.cesr_codes.specs.Indices.{has_form}
use Rattle.cesr_codes.specs.declared.digest.Digest.{Digest}
use Rattle.cesr_codes.specs.declared.key.Key.{Key}
use Rattle.event_body.specs.declared.event_body.event.Event.{Event}
use Rattle.event_body.specs.declared.event_body.event.Event.TheVariants.{Icp, Rot, Ixn, Dip, Drt, Rct}
use Rattle.key_state.specs.Exposure.{commits, own_rules}
use Rattle.key_state.specs.States.{State}
use Rattle.journal.specs.EventRules.Additions.{is_number}
use Rattle.journal.specs.EventRules.Parts.{Part, index, reveal, backer, has_signed}
use Rattle.controller_core.specs.declared.controller_core.slot.Slot.{Slot}

-- the slot names the commitment of this number, and the key at its index is the one that was committed to
abbrev pub slot_opens : List Digest → List Key → ℕ → Slot → Bool
slot_opens next keys n slot = is_number slot.ondex n && commits (slice_get next n) (slice_get keys slot.index)

-- the same, where the event is a rotation behind a state
abbrev pub slot_opens_at : Option State → Event → ℕ → Slot → Bool
slot_opens_at None e n slot = false
slot_opens_at (Some s) (Rot e) n slot = slot_opens s.next e.keys n slot
slot_opens_at (Some s) (Drt e) n slot = slot_opens s.next e.keys n slot
slot_opens_at (Some s) (Icp e) n slot = false
slot_opens_at (Some s) (Ixn e) n slot = false
slot_opens_at (Some s) (Dip e) n slot = false
slot_opens_at (Some s) (Rct e) n slot = false

-- the parts of an event behind a state that good signatures in these slots bring
unfoldable pub slots_have : Option State → Event → List Slot → Part → Bool
slots_have s e slots (index n) = list_any (λ slot. slot.index == n) slots
slots_have s e slots (reveal n) = list_any (slot_opens_at s e n) slots
slots_have s e slots (backer n) = false

-- the slot is that of one of so many keys, and two characters spell each of its places (CESR: indexed code table)
abbrev pub is_in_range : ℕ → Slot → Bool
is_in_range keys slot = nat_lt slot.index keys && has_form true slot.index slot.ondex

-- there are no more slots than one group counts, each is in range, and good signatures in them sign the event
unfoldable pub are_enough : Option State → Event → List Slot → Bool
are_enough s e slots = nat_le (length slots) 4095 && list_all (is_in_range (length (own_rules s e).keys)) slots && has_signed (slots_have s e slots) s e

-- a signature in the slot is written big: one of two characters for each place, where none of one character is of the form
abbrev pub is_big : Slot → Bool
is_big slot = not (has_form false slot.index slot.ondex)
