use Rattle.std.proofs.Common.{◌≡◌, map, take}
use Rattle.cesr_codes.specs.Spelling.{prefix_text}
use Rattle.event_body.specs.EventBody.Events.{prefix_of}
use Rattle.journal_views.proofs.journal_views.places.prefix_texts.Given as goal

abbrev pub invariant-loop-event : goal.invariant-loop-event
invariant-loop-event l = l.texts.items ≡ map (λ e. prefix_text (prefix_of e)) (take l.event-index l.events)
