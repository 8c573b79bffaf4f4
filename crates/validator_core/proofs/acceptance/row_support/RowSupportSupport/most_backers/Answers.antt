use Rattle.std.proofs.Common.{arith}
use Rattle.claim_table.specs.declared.claim_table.part.Part.TheVariants.{Backed}
use Rattle.claim_table.specs.ClaimTable.Parts.{has_part}
use Rattle.validator_core.proofs.AcceptanceLemmas.Backers.{passing_below}
use Rattle.validator_core.proofs.acceptance.row_support.RowSupportSupport.most_backers.Goals as goal

pub returns : goal.returns
returns c = record {
  most = λ bound.
      let same = passing_below (λ n. has_part c.args.self.now.claims.now.rows c.args.self.now.number (Backed n)) bound in let most = c.backer_count.ensures.most bound in omega (arith, same, most);
}
