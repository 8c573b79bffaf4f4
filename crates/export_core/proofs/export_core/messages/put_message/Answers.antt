use Rattle.std.proofs.Common.{arith}
use Rattle.export_core.proofs.ExportCoreLemmas.Texts.{on_ok_so, parts_put}
use Rattle.export_core.proofs.export_core.messages.put_message.Goals as goal

pub returns : goal.returns
returns c = on_ok_so c.put_couples.result c.put_couples.ensures (λ put.
    parts_put c.args.text.now.bytes.items c.args.bytes.now c.args.claims.now c.in_ok-held.held.items c.in_ok-witness.witness.items c.in_ok-couples.couples.items
    c.in_ok-held.ensures.are c.in_ok-witness.ensures.are c.in_ok-couples.ensures.are
    (record {
      few_held = omega (arith, c.in_ok-held.ensures.few, c.requires.few);
      few_witness = omega (arith, c.in_ok-witness.ensures.few, c.requires.few);
      few_couples = omega (arith, c.in_ok-couples.ensures.few, c.requires.few);
      raw_held = c.in_ok-held.ensures.raw;
      raw_witness = c.in_ok-witness.ensures.raw;
      raw_couples = c.in_ok-couples.ensures.raw;
    })
    c.put_bytes.new.self.bytes.items c.put_held.new.text.bytes.items c.put_witness.new.text.bytes.items c.put_couples.new.text.bytes.items
    c.in_ok-put_bytes.ensures c.in_ok-put_held.ensures c.in_ok-put_witness.ensures put)
