use Rattle.std.proofs.Common.{sym}
use Rattle.journal.specs.Journal.Seals.{members_of}
use Rattle.event_backing.specs.EventSeals.{named}
use Rattle.event_backing.proofs.SealMembers.{are_seal-other}
use Rattle.event_backing.proofs.seal_search.is_seal.Goals as goal

pub returns-in-None : goal.returns-in-None
returns-in-None c = sym (are_seal-other (named c.args.prefix.now c.args.sn c.args.said.now) (members_of c.args.value.now) c.in-None.ensures.none)
