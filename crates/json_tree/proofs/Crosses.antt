-- A value may go to another thread: what it owns stays the same there.
use denote.Builtin.{u8}
use denote.Param.Send.{IsSend, sendable}
use denote.Param.SendFields.{variants_send, declared_send, as_row_send}
use denote.RattleType.{RattleType}
use denote.Struct.Field.{row_field}
use denote.Hole.FixSend.{fix_send, Sends}
use Rattle.lists.proofs.lists.items.Items.TheSendSync as items
use Rattle.lists.specs.contracts.lists.items.Items as rows
use Rattle.json_tree.specs.contracts.tree.Tree as tree
use Rattle.json_tree.specs.contracts.tree.Tree.TheKnot as knot
use Rattle.json_tree.specs.declared.tree.Tree.TheBlock.{member-Tree, member-Member}

-- the bytes of a text
text_send : IsSend (rows.the_row u8)
text_send = items.the_send u8 (search sendable)

-- values in a row may cross where each may
row_send : (T : RattleType) → IsSend T → IsSend (rows.the_row T)
row_send T s = items.the_send T s

module _ (h : knot.the_members → RattleType) (all : (j : knot.the_members) → IsSend (h j)) where
  abbrev T : RattleType
  T = h knot.member-Tree

  abbrev M : RattleType
  M = h knot.member-Member

  value_layer : IsSend (knot.layer-Tree T M)
  value_layer = variants_send (knot.type-Tree T M) (
    tt,
    (
      (search sendable, tt),
      (
        (text_send, tt),
        (
          (text_send, tt),
          (
            (as_row_send (row_field (rows.the_row T)) (row_send T (all knot.member-Tree)), tt),
            ((as_row_send (row_field (rows.the_row M)) (row_send M (all knot.member-Member)), tt), tt),
          ),
        ),
      ),
    ),
  )

  member_layer : IsSend (knot.layer-Member T)
  member_layer = declared_send (knot.type-Member T) (text_send, (as_row_send (row_field T) (all knot.member-Tree), tt))

layers : (i : knot.the_members) → Sends knot.ring i
layers member-Tree = record { send = value_layer }
layers member-Member = record { send = member_layer }

hole_send : (i : knot.the_members) → IsSend (denote.Hole.Fix.holes knot.ring i)
hole_send = fix_send knot.ring layers

pub tree_send : IsSend tree.the_row
tree_send = variants_send tree.enum (
  tt,
  (
    (search sendable, tt),
    (
      (text_send, tt),
      (
        (text_send, tt),
        (
          (as_row_send (row_field (rows.the_row knot.hole-Tree)) (row_send knot.hole-Tree (hole_send knot.member-Tree)), tt),
          ((as_row_send (row_field (rows.the_row knot.hole-Member)) (row_send knot.hole-Member (hole_send knot.member-Member)), tt), tt),
        ),
      ),
    ),
  ),
)
