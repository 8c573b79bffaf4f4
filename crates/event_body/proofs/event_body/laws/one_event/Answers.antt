use Rattle.event_body.proofs.EventBodyLemmas.Whole as whole
use Rattle.event_body.proofs.event_body.laws.one_event.Goals as goal

pub returns : goal.returns
returns c = whole.one_event
