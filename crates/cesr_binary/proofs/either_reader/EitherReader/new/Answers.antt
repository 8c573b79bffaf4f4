use Rattle.std.proofs.Common.{[], refl, sym, ap, ◌∙◌, arith}
use Rattle.cesr_binary.proofs.Wires.{in_text_of}
use Rattle.cesr_binary.proofs.either_reader.EitherReader.new.Goals as goal

pub returns-clause-given : goal.returns-clause-given
returns-clause-given c =
    let e = c.new.ensures in
    record {
      from = ap (λ r. r.place) e;
      not_bad = ap (λ r. r.bad) e;
      given = record {
        within = omega arith;
        threes = λ t. refl;
        spelled = ap (λ r. r.rest) e ∙ sym (in_text_of [] refl);
      };
    }
