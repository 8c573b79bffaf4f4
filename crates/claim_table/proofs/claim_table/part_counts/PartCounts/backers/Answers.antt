use Rattle.std.proofs.Common.{◌<◌, ◌≤◌, length, refl, sym, subst, rules}
use Rattle.std.specs.Prelude.{nat_lt}
use Rattle.std.specs.Map.{keys_of}
use Rattle.std.proofs.lemmas.Map.Keys.{IsDistinct-from_sorted}
use Rattle.std.proofs.lemmas.Option.{slice_get_past, slice_get_read}
use Rattle.claim_table.specs.declared.claim_table.part.Part.TheVariants.{Backed}
use Rattle.claim_table.specs.ClaimTable.Counts.{entry_at}
use Rattle.claim_table.specs.ClaimTable.Entries.{or_zero, part_cmp}
use Rattle.claim_table.specs.ClaimTable.Parts.{AreSoMany}
use Rattle.claim_table.proofs.ClaimTableLemmas.Backers.{all_backers, no_backers}
use Rattle.claim_table.proofs.claim_table.part_counts.PartCounts.backers.Goals as goal

pub returns-in-Some : goal.returns-in-Some
returns-in-Some c =
    let bodies = c.args.self.now.counts.items in let es = c.in-Some.counts.now in
    let lt : c.args.body < length bodies = search rules in
    let at = slice_get_read bodies (length bodies) c.args.body es refl lt (search rules) in
    subst (λ o. AreSoMany (λ n. nat_lt 0 (or_zero (entry_at o (Backed n)))) c.backers.result) (sym at)
    (rw c.backers.ensures.those (all_backers es (IsDistinct-from_sorted part_cmp (keys_of es) c.backers.ensures.sorted)))

pub returns-in-None : goal.returns-in-None
returns-in-None c =
    let bodies = c.args.self.now.counts.items in
    let past : length bodies ≤ c.args.body = search rules in
    subst (λ o. AreSoMany (λ n. nat_lt 0 (or_zero (entry_at o (Backed n)))) 0) (sym (slice_get_past bodies c.args.body past)) no_backers
