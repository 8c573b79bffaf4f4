use Rattle.std.proofs.Common.{rules}
use Rattle.std.proofs.lemmas.List.Sorted.{answers_always}
use Rattle.claim_table.proofs.ClaimTableLemmas.Entries.{searched}
use Rattle.claim_table.proofs.claim_table.body_counts.place_of.Goals as goal

-- the closure gives an entry's part
pub returns : goal.returns
returns c =
    let facts = c.binary_search_by_key.ensures in
    let by_part = facts.position (λ entry. entry.0) (answers_always _ _ _ (λ f a r g called. search rules)) in
    searched c.args.entries.now c.args.part c.binary_search_by_key.result c.requires facts.bound by_part
