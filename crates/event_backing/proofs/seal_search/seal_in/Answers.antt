use Rattle.event_backing.proofs.SealMembers.{no_texts}
use Rattle.event_backing.proofs.seal_search.seal_in.Goals as goal

pub returns-in_err-texts : goal.returns-in_err-texts
returns-in_err-texts c = rw c.from_residual.ensures (no_texts c.args.value.now c.in_err-texts.ensures.none)
