use Rattle.event_body.proofs.EventWritingLemmas.Read.{spelled_where_none, faulty_where_some}
use Rattle.event_body.proofs.event_writing.body.fault_of.Goals as goal

pub returns-clause-none : goal.returns-clause-none
returns-clause-none c = spelled_where_none c.args.event.now c.requires.typed c.requires.thresholds c.requires.writable c.args.text.now c.requires.text c.err.result c.read_body.result c.err.ensures.value c.read_body.ensures.judged

pub returns-clause-some : goal.returns-clause-some
returns-clause-some c = faulty_where_some c.args.event.now c.requires.typed c.requires.thresholds c.requires.writable c.args.text.now c.requires.text c.err.result c.read_body.result c.err.ensures.value c.read_body.ensures.judged
