use Rattle.std.proofs.Common.{length, flat_map, inl, inr, sym, ◌∙◌, arith}
use Rattle.cesr_codes.specs.Indexed.{indexed_text}
use Rattle.cesr_stream.specs.Texts.{couple_text, seen_text, anchor_text}
use Rattle.cesr_stream.proofs.Sizes.{length-counted}
use Rattle.cesr_stream.proofs.write.GroupWritable.size.Goals as goal

pub size_counted-requires : goal.size_counted-requires
size_counted-requires c =
    let elements = c.in-Couples.couples in
    rw c.as_slice.ensures (omega (arith, rw c.in-Couples.is at c.requires, length-counted 67 (length elements) (flat_map couple_text elements)))

pub returns-in-Couples : goal.returns-in-Couples
returns-in-Couples c =
    let elements = c.in-Couples.couples in
    rw c.in-Couples.is (rw c.as_slice.ensures at c.size_counted.ensures ∙ sym (length-counted 67 (length elements) (flat_map couple_text elements)))

pub size_counted-requires-in-FirstSeen : goal.size_counted-requires-in-FirstSeen
size_counted-requires-in-FirstSeen c =
    let elements = c.in-FirstSeen.seen in
    rw c.as_slice-in-FirstSeen.ensures (omega (arith, rw c.in-FirstSeen.is at c.requires, length-counted 69 (length elements) (flat_map seen_text elements)))

pub returns-in-FirstSeen : goal.returns-in-FirstSeen
returns-in-FirstSeen c =
    let elements = c.in-FirstSeen.seen in
    rw c.in-FirstSeen.is
    (rw c.as_slice-in-FirstSeen.ensures at c.size_counted-in-FirstSeen.ensures ∙ sym (length-counted 69 (length elements) (flat_map seen_text elements)))

pub size_counted-requires-in-Anchor : goal.size_counted-requires-in-Anchor
size_counted-requires-in-Anchor c =
    let elements = c.in-Anchor.anchors in
    rw c.as_slice-in-Anchor.ensures (omega (arith, rw c.in-Anchor.is at c.requires, length-counted 71 (length elements) (flat_map anchor_text elements)))

pub returns-in-Anchor : goal.returns-in-Anchor
returns-in-Anchor c =
    let elements = c.in-Anchor.anchors in
    rw c.in-Anchor.is
    (rw c.as_slice-in-Anchor.ensures at c.size_counted-in-Anchor.ensures ∙ sym (length-counted 71 (length elements) (flat_map anchor_text elements)))

pub size_counted-requires-in-Controller : goal.size_counted-requires-in-Controller
size_counted-requires-in-Controller c =
    let elements = c.in-Controller.sigs in
    rw c.as_slice-in-Controller.ensures (elim c.in-Controller.is [
      | inl held ↦ omega (arith, rw held at c.requires, length-counted 65 (length elements) (flat_map indexed_text elements))
      | inr witness ↦ omega (arith, rw witness at c.requires, length-counted 66 (length elements) (flat_map indexed_text elements))
    ])

pub returns-in-Controller : goal.returns-in-Controller
returns-in-Controller c =
    let elements = c.in-Controller.sigs in
    elim c.in-Controller.is [
      | inl held ↦ rw held
          (rw c.as_slice-in-Controller.ensures at c.size_counted-in-Controller.ensures ∙ sym (length-counted 65 (length elements) (flat_map indexed_text elements)))
      | inr witness ↦ rw witness
          (rw c.as_slice-in-Controller.ensures at c.size_counted-in-Controller.ensures ∙ sym (length-counted 66 (length elements) (flat_map indexed_text elements)))
    ]
