use Rattle.std.proofs.Common.{true, false, sym, ◌∙◌}
use Rattle.cesr_codes.proofs.Front.{pad_bits, judged_held, whole_is}
use Rattle.cesr_codes.proofs.primitive.read_whole.Goals as goal

pub returns-in-Whole : goal.returns-in-Whole
returns-in-Whole g c =
    judged_held (g.C.Code.layout_of c.args.code) c.args.text.now c.decode_behind.new.raw c.head.result c.head.ensures (c.decode_behind.auto.raw ∙ c.requires.bytes ∙ sym (g.met.C.Code.sized c.args.code).raw)
    (rw c.in-Whole.is at c.decode_behind.ensures) true (sym c.has_other_index.ensures ∙ c.if-has_other_index.true)

pub returns-in-Whole-2 : goal.returns-in-Whole-2
returns-in-Whole-2 g c =
    let layout = g.C.Code.layout_of c.args.code in
    let size = c.decode_behind.auto.raw ∙ c.requires.bytes ∙ sym (g.met.C.Code.sized c.args.code).raw in
    let decoded = rw c.in-Whole-2.is at c.decode_behind.ensures in
    let no_other = sym c.has_other_index.ensures ∙ c.if-has_other_index.false in (
      judged_held layout c.args.text.now c.decode_behind.new.raw c.head.result c.head.ensures size decoded false no_other,
      whole_is layout c.args.text.now c.decode_behind.new.raw c.head.result c.head.ensures size decoded c.requires.all no_other,
    )

pub returns-in-Large : goal.returns-in-Large
returns-in-Large g c =
    pad_bits (g.C.Code.layout_of c.args.code) c.args.text.now c.decode_behind.new.raw c.head.result c.head.ensures (c.decode_behind.auto.raw ∙ c.requires.bytes ∙ sym (g.met.C.Code.sized c.args.code).raw)
    (rw c.in-Large.is at c.decode_behind.ensures)
