use Rattle.std.proofs.Common.{refl, []}
use Rattle.journal_views.proofs.EventPayloadLemmas.Adding.{held_none}
use Rattle.journal_views.proofs.event_payload.kept.Kept.new.Goals as goal

pub returns : goal.returns
returns c = λ s e. held_none s e [] _ c.new.ensures.items (λ p. rw c.new-2.ensures.empty refl)
