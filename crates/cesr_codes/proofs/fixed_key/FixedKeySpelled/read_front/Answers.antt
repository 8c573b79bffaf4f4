use Rattle.cesr_codes.proofs.FixedKeys.{same_read}
use Rattle.cesr_codes.proofs.fixed_key.FixedKeySpelled.read_front.Goals as goal

pub returns-in-Fixed-clause-whole : goal.returns-in-Fixed-clause-whole
returns-in-Fixed-clause-whole c = λ value rest valid e. same_read _ value c.in-Ok.length (c.in-Ok.ensures.whole value.key rest valid e)
