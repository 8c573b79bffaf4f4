use Rattle.std.proofs.Common.{◌≡◌, ◌-◌, ◌++◌, length, ap, ◌∙◌, arith}
use Rattle.lists.specs.KeriSpecs.Base64.{base64_text, whole_number}
use Rattle.cesr_codes.proofs.Indexed.{written_big}
use Rattle.cesr_codes.proofs.indexed_sig.IndexedSig.write.Goals as goal

pub returns-then-self-clause-written : goal.returns-then-self-clause-written
returns-then-self-clause-written c =
    let count : length c.args.out.now - length c.big_head-head.result ≡ 86 = omega (arith, c.told-out, c.big_head-head.type_inv) in
    written_big c.args.self.now c.big_head-head.result c.write.new.out c.args.out.now c.if-self.true c.big_head-head.ensures
    (c.write.ensures ∙ ap (λ k. c.big_head-head.result ++ base64_text k (whole_number c.args.self.now.sig.raw)) count) c.told-out
