use Rattle.sith.proofs.Slashes.{no_slash_more}
use Rattle.sith.proofs.weight.slash_place.Goals as goal

pub loop-place-preserved : goal.loop-place-preserved
loop-place-preserved c = no_slash_more _ _ c.loop-place-test.true c.loop-place.invariant c.if-byte-eq47.false
