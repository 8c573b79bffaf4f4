-- The order of parts: two of them are of one place exactly where they have one index and one reveal.
use Rattle.std.proofs.Common.{◌≡◌, ◌&&◌, ◌==◌, sym, ◌∙◌, rules, tests}
use Rattle.std.specs.BTreeMap.{is_at}
use Rattle.std.specs.Option.{option_eq}
use Rattle.journal_views.specs.EventPayload.Holding.{part_cmp}
use Rattle.journal_views.specs.contracts.event_payload.part.PartOrd.TheImpl.Laws as part_laws
use Rattle.journal_views.specs.contracts.event_payload.part.PartPartialEq.TheImpl as part_test
use Rattle.journal_views.specs.declared.event_payload.part.Part.{Part}

alike : (p q : Part) → (part_test.ghosts).eq p q ≡ ((p.index == q.index) && option_eq (λ i j. i == j) p.reveal q.reveal)
alike p q = search (rules, tests)

pub at_is : (p q : Part) → is_at (part_cmp p) q ≡ ((p.index == q.index) && option_eq (λ i j. i == j) p.reveal q.reveal)
at_is p q = sym (part_laws.matches_eq-law p q) ∙ alike p q
