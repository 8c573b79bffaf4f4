-- The values of a body's fields by name, as the list in which they stand: in the order of the field map of their kind.
use Rattle.std.specs.Prelude.{List, [], ◌∷◌}
use Rattle.json_tree.specs.declared.tree.Tree.{Tree}
use Rattle.event_body.specs.declared.event_body.field_values.InceptionValues.{InceptionValues}
use Rattle.event_body.specs.declared.event_body.field_values.RotationValues.{RotationValues}

-- the values of an inception, and behind them others
abbrev pub inception_list : InceptionValues → List Tree → List Tree
inception_list v others = v.said.now ∷ v.prefix.now ∷ v.first.now ∷ v.kt.now ∷ v.keys.now ∷ v.nt.now ∷ v.next.now ∷ v.toad.now ∷ v.list.now ∷ v.traits.now ∷ v.anchors.now ∷ others

-- the values of a rotation
abbrev pub rotation_list : RotationValues → List Tree
rotation_list v = v.said.now ∷ v.prefix.now ∷ v.sn.now ∷ v.prior.now ∷ v.kt.now ∷ v.keys.now ∷ v.nt.now ∷ v.next.now ∷ v.toad.now ∷ v.cuts.now ∷ v.adds.now ∷ v.anchors.now ∷ []
