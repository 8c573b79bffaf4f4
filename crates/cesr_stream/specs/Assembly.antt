-- What an assembler holds, and what its calls answer and change.
use Rattle.std.specs.Prelude.{◌≡◌, ℕ, ◌+◌, ◌≤◌, nat_lt, if◌then◌else◌, List, [], ◌∷◌, ◌++◌, length, take, sum_by, option_map}
use Rattle.std.specs.declared.option.Option.{Option}
use Rattle.std.specs.declared.option.Option.TheVariants.{None, Some}
use Rattle.cesr_stream.specs.declared.group.Group.{Group}
use Rattle.cesr_stream.specs.declared.item.Item.{Item}
use Rattle.cesr_stream.specs.declared.item.Item.TheVariants.{Body, Group as GroupItem, Wrapped}
use Rattle.cesr_stream.specs.declared.message.Message.{Message}
use Rattle.cesr_stream.specs.Groups.{elements_of}
use Rattle.cesr_stream.specs.Items.{Placed}
use Rattle.cesr_stream.specs.Messages.{kept_groups, message, messages}

-- how many elements a message may have, and the message whose groups may still come
pub record Assembly : Type 0 where
  pub limit : ℕ
  pub current : Option Message

abbrev pub assembly : ℕ → Option Message → Assembly
assembly limit current = record { limit = limit; current = current }

abbrev pub all_of : Option Message → List Message
all_of None = []
all_of (Some message) = message ∷ []

-- The messages of these items were answered, in order, but for the one that is open. None is open only where there is
-- none.
pub record IsAssembled (limit : ℕ) (items : List Placed) (answered : List Message) (assembler : Assembly) : Type 0 where
  pub limited : assembler.limit ≡ limit
  pub all : answered ++ all_of assembler.current ≡ messages limit items
  pub begun : assembler.current ≡ None → messages limit items ≡ []

-- a body answers the open message
abbrev pub closed_by : Item → Option Message → Option Message
closed_by (Body body) current = current
closed_by (GroupItem group) current = None
closed_by (Wrapped groups) current = None

-- a message with more groups behind its own
abbrev pub with_groups : ℕ → List Group → Message → Message
with_groups limit groups message =
    if message.excess then message
    else record message {
      groups = message.groups ++ kept_groups limit (sum_by elements_of message.groups) groups;
      excess = nat_lt limit (sum_by elements_of message.groups + sum_by elements_of groups);
    }

abbrev pub grown : Assembly → List Group → Assembly
grown assembler groups = record assembler { current = option_map (with_groups assembler.limit groups) assembler.current }

-- how many elements the kept groups of the open message have
abbrev pub used_by : Option Message → ℕ
used_by None = 0
used_by (Some message) = sum_by elements_of message.groups

-- what an item makes of the open message: a body begins another, and groups come to it
abbrev pub pushed : Assembly → ℕ → Item → Assembly
pushed assembler place (Body body) = assembly assembler.limit (Some (message assembler.limit place body []))
pushed assembler place (GroupItem group) = grown assembler (group ∷ [])
pushed assembler place (Wrapped groups) = grown assembler groups

-- so many of the groups are kept behind so many elements, and how many elements there are then
pub record AreKept (limit before : ℕ) (groups : List Group) (count used : ℕ) : Type 0 where
  pub kept : take count groups ≡ kept_groups limit before groups
  pub some : count ≤ length groups
  pub counted : used ≡ before + sum_by elements_of (take count groups)
  pub few : used ≤ limit

-- groups were added to the message, and how many elements its groups have then
pub record AreAdded (limit : ℕ) (groups : List Group) (old new : Message) (used : ℕ) : Type 0 where
  pub added : new ≡ with_groups limit groups old
  pub counted : used ≡ sum_by elements_of new.groups
  pub few : used ≤ limit
