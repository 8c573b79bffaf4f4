-- What is read of a payload by what a reader answers.
use Rattle.std.specs.Prelude.{ℕ, Bool, true, false, length, Option, Some, None}
use Rattle.cesr_stream.specs.declared.group.Group.TheVariants.{Controller, Witness, Couples, FirstSeen, Anchor}
use Rattle.cesr_stream.specs.declared.item.Item.{Item}
use Rattle.cesr_stream.specs.declared.item.Item.TheVariants.{Body as BodyItem, Group as GroupItem, Wrapped}
use Rattle.cesr_stream.specs.declared.step.Step.{Step}
use Rattle.cesr_stream.specs.declared.step.Step.TheVariants.{Item as ItemStep, NeedMore, Bad as BadStep}

-- it is a group of signatures by the controller's keys (CESR, `-A`)
abbrev pub is_held : Item → Bool
is_held (BodyItem bytes) = false
is_held (GroupItem (Controller sigs)) = true
is_held (GroupItem (Witness sigs)) = false
is_held (GroupItem (Couples couples)) = false
is_held (GroupItem (FirstSeen seen)) = false
is_held (GroupItem (Anchor anchors)) = false
is_held (Wrapped groups) = false

-- such a group was answered
abbrev pub is_group : Step → Bool
is_group (ItemStep item place) = is_held item
is_group NeedMore = false
is_group (BadStep bad) = false

-- how many bytes a body has that was answered
abbrev pub size_in : Step → Option ℕ
size_in (ItemStep (BodyItem bytes) place) = Some (length bytes)
size_in (ItemStep (GroupItem group) place) = None
size_in (ItemStep (Wrapped groups) place) = None
size_in NeedMore = None
size_in (BadStep bad) = None
