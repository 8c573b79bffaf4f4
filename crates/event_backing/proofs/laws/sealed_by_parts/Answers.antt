use Rattle.event_backing.proofs.SealMembers.{seals-named}
use Rattle.event_backing.proofs.laws.sealed_by_parts.Goals as goal

pub returns : goal.returns
returns c = seals-named
