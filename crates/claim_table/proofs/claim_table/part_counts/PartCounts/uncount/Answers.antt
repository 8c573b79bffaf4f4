use Rattle.std.proofs.Common.{◌≡◌, ap, arith, rules}
use Rattle.std.specs.Option.{option_map}
use Rattle.claim_table.specs.declared.claim_table.part.Part.TheVariants.{Indexed, Revealed, Backed}
use Rattle.claim_table.specs.ClaimTable.Counts.{is_one}
use Rattle.claim_table.specs.ClaimTable.Entries.{bit}
use Rattle.claim_table.proofs.ClaimTableLemmas.Counting.{bits}
use Rattle.claim_table.proofs.claim_table.part_counts.PartCounts.uncount.Goals as goal

pub returns-clause-amounts : goal.returns-clause-amounts
returns-clause-amounts c = λ q.
    let parts = c.args.parts.now in
    let index : c.map.result ≡ option_map Indexed parts.index = search rules in
    let reveal : c.map-2.result ≡ option_map Revealed parts.reveal = search rules in
    let backer : c.map-3.result ≡ option_map Backed parts.backer = search rules in
    let sum = bits c.args.body parts q in
    let x = ap (λ o. bit (is_one c.args.body o q)) index in let y = ap (λ o. bit (is_one c.args.body o q)) reveal in let z = ap (λ o. bit (is_one c.args.body o q)) backer in
    let i = c.uncount_one.ensures.amounts q in let r = c.uncount_one-2.ensures.amounts q in let b = c.uncount_one-3.ensures.amounts q in
    omega (arith, sum, x, y, z, i, r, b)
