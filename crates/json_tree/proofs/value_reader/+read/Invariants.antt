use Rattle.std.proofs.Common.{◌≡◌, ◌≢◌, ℕ, ◌+◌, ◌*◌, List, ◌∷◌, ◌++◌, length, map}
use Rattle.std.specs.List.{AllByRecursion}
use Rattle.json_tree.specs.Spelling.{spelling, member_text, Fits, FitsMember}
use Rattle.json_tree.proofs.Items.{with_commas}
use Rattle.json_tree.proofs.value_reader.+read.Given as goal

-- the depth that is left, and within one depth the order of the calls
abbrev pub decreases-read_list : goal.decreases-read_list
decreases-read_list l = 4 * l.depth + 1

abbrev pub decreases-read_object : goal.decreases-read_object
decreases-read_object l = 4 * l.depth + 1

abbrev pub decreases-read_value : goal.decreases-read_value
decreases-read_value l = 4 * l.depth + 2

abbrev pub decreases-read_member : goal.decreases-read_member
decreases-read_member l = 4 * l.depth + 3

abbrev pub decreases-read_values : goal.decreases-read_values
decreases-read_values l = 4 * l.depth + 4

abbrev pub decreases-read_members : goal.decreases-read_members
decreases-read_members l = 4 * l.depth + 4

-- the values so far stand in front of what is left, each with its comma
abbrev pub invariant-read_values-loop-values : goal.invariant-read_values-loop-values
invariant-read_values-loop-values l = record {
  each : AllByRecursion (Fits l.depth) l.values.items;
  whole : l.bytes ≡ with_commas (map spelling l.values.items) ++ l.left;
  some : (rest : List ℕ) → l.bytes ≢ 93 ∷ rest;
}

abbrev pub decreases-read_values-loop-values : goal.decreases-read_values-loop-values
decreases-read_values-loop-values l = length l.left

-- the members so far stand in front of what is left, each with its comma
abbrev pub invariant-read_members-loop-members : goal.invariant-read_members-loop-members
invariant-read_members-loop-members l = record {
  each : AllByRecursion (FitsMember l.depth) l.members.items;
  whole : l.bytes ≡ with_commas (map member_text l.members.items) ++ l.left;
  some : (rest : List ℕ) → l.bytes ≢ 125 ∷ rest;
}

abbrev pub decreases-read_members-loop-members : goal.decreases-read_members-loop-members
decreases-read_members-loop-members l = length l.left
