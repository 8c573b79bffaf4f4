use Rattle.event_body.proofs.EventBodyLemmas.Whole.{whole}
use Rattle.event_body.proofs.event_body.body.read_body.Goals as goal

pub returns-clause-whole : goal.returns-clause-whole
returns-clause-whole c = λ event spells few. whole event c.args.bytes.now c.judge.result c.judge.ensures spells few
