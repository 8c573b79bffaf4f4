use Rattle.event_body.proofs.EventWritingLemmas.Spelled as written
use Rattle.event_body.proofs.event_writing.laws.writable.Goals as goal

pub returns : goal.returns
returns c = written.writable
