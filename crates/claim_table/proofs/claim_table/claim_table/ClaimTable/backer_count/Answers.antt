use Rattle.std.proofs.Common.{ℕ, sym, ◌∙◌, ap, nat_lt}
use Rattle.claim_table.specs.ClaimTable.BodyParts.{BodyPart}
use Rattle.claim_table.specs.ClaimTable.Counts.{amount}
use Rattle.claim_table.specs.declared.claim_table.part.Part.TheVariants.{Backed}
use Rattle.claim_table.specs.ClaimTable.Parts.{has_part, supports}
use Rattle.claim_table.proofs.ClaimTableLemmas.Backers.{most_below, so_many_alike}
use Rattle.claim_table.proofs.ClaimTableLemmas.Lists.{any_count}
use Rattle.claim_table.proofs.claim_table.claim_table.ClaimTable.backer_count.Goals as goal

pub returns-clause-all : goal.returns-clause-all
returns-clause-all c =
    let inner = c.self.inside.inner in
    let its : ℕ → BodyPart = λ n. record { body = c.args.body; part = Backed n } in
    so_many_alike (λ n. nat_lt 0 (amount inner.counts (its n))) (λ n. has_part c.args.self.now.rows c.args.body (Backed n)) c.backers.result
    (λ n. ap (nat_lt 0) (c.self.invariant.counted (its n)) ∙ sym (any_count (supports (its n)) inner.rows.items) ∙ ap (λ v. has_part v.rows c.args.body (Backed n)) c.self.view_is) c.backers.ensures

pub returns-clause-most : goal.returns-clause-most
returns-clause-most c = λ bound. most_below (λ n. has_part c.args.self.now.rows c.args.body (Backed n)) c.backers.result (returns-clause-all c) bound
