-- The messages of a stream.
use Rattle.std.specs.Prelude.{ℕ, ◌+◌, nat_le, nat_lt, if◌then◌else◌, List, [], ◌∷◌, ◌++◌, sum_by}
use Rattle.cesr_stream.specs.declared.group.Group.{Group}
use Rattle.cesr_stream.specs.declared.item.Item.{Item}
use Rattle.cesr_stream.specs.declared.item.Item.TheVariants.{Body, Group as GroupItem, Wrapped}
use Rattle.cesr_stream.specs.declared.message.Message.{Message}
use Rattle.cesr_stream.specs.Groups.{elements_of}
use Rattle.cesr_stream.specs.Items.{Placed}

-- the first groups, as far as they have no more elements than a message may have beside those before them
abbrev pub kept_groups : ℕ → ℕ → List Group → List Group
kept_groups limit before [] = []
kept_groups limit before (group ∷ groups) =
    if nat_le (before + elements_of group) limit then group ∷ kept_groups limit (before + elements_of group) groups else []

-- a body with all the groups that belong to it
abbrev pub message : ℕ → ℕ → List ℕ → List Group → Message
message limit place body groups = record {
  place = place;
  body = body;
  groups = kept_groups limit 0 groups;
  excess = nat_lt limit (sum_by elements_of groups);
}

-- the groups before the next body, where an item stands before these; those of a wrap count as plain ones
abbrev pub groups_with : Item → List Group → List Group
groups_with (Body body) groups = []
groups_with (GroupItem group) groups = group ∷ groups
groups_with (Wrapped wrapped) groups = wrapped ++ groups

abbrev pub groups_before_body : List Placed → List Group
groups_before_body [] = []
groups_before_body (first ∷ items) = groups_with first.item (groups_before_body items)

-- a body begins a message, which has the groups behind it
abbrev pub begun_by : ℕ → ℕ → Item → List Group → List Message
begun_by limit place (Body body) groups = message limit place body groups ∷ []
begun_by limit place (GroupItem group) groups = []
begun_by limit place (Wrapped wrapped) groups = []

-- a message for each body, with the groups up to the next one or to the end; groups before any body are in none
abbrev pub messages : ℕ → List Placed → List Message
messages limit [] = []
messages limit (first ∷ items) =
    begun_by limit first.place first.item (groups_before_body items) ++ messages limit items
