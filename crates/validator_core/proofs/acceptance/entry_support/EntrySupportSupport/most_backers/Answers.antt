use Rattle.std.proofs.Common.{◌≤◌, filter, length, sym, subst}
use Rattle.std.specs.Prelude.{slice_get}
use Rattle.std.specs.Option.{option_copied}
use Rattle.claim_table.specs.ClaimTable.Rows.{has_yes_by}
use Rattle.key_state.specs.Exposure.{own_rules, numbers_below}
use Rattle.journal.specs.EventRules.Claims.{is_so}
use Rattle.journal.proofs.EventRulesLemmas.Filters.{few_passing, named_within}
use Rattle.validator_core.proofs.acceptance.entry_support.EntrySupportSupport.most_backers.Goals as goal

pub returns : goal.returns
returns c =
    let s = c.args.self.now in let keys = (own_rules (option_copied s.state) s.event.now).witnesses in let by = has_yes_by s.tables.now.claims.rows s.number in record {
      most = λ bound. subst (λ most. length (filter (λ n. is_so by (slice_get keys n)) (numbers_below bound)) ≤ most) (sym c.witness_count.ensures) (few_passing (λ n. is_so by (slice_get keys n)) (length keys) (named_within by keys) bound);
    }
