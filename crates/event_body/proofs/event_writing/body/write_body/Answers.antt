use Rattle.event_body.proofs.EventWritingLemmas.Read.{answered}
use Rattle.event_body.proofs.event_writing.body.write_body.Goals as goal

pub returns-clause-whole : goal.returns-clause-whole
returns-clause-whole c = λ bytes spells few. answered c.args.event.now bytes spells few (λ text. text.items) c.written.result c.written.ensures.text c.written.ensures.fault
