use Rattle.std.proofs.Common.{◌≡◌, ℕ, true, sym, ◌∙◌, subst}
use Rattle.std.specs.Prelude.{Contains, slice_get}
use Rattle.std.proofs.lemmas.Bool.{and_parts}
use Rattle.escrow.proofs.EventIndexLemmas.Orders.{Contains-filter}
use Rattle.claim_table.specs.CoreLaws.Waking.{is_waiting}
use Rattle.validator_core.specs.Tables.View.{log_of}
use Rattle.validator_core.specs.TableChanges.Awaited.{is_awaited_there}
use Rattle.validator_core.proofs.TableChangesLemmas.Events.{if_ok_then}
use Rattle.validator_core.proofs.table_changes.woken.numbers_woken.Goals as goal

pub returns-clause-all : goal.returns-clause-all
returns-clause-all c = if_ok_then c.waiters.result c.waiters.ensures (λ those is d b n at_d at wakes.
    let v = c.args.tables.now in let log = log_of v in let mode = c.args.mode in
    let awaits : is_awaited_there mode log (slice_get v.held c.args.number) (slice_get v.held n) ≡ true
    = (λ i. is_awaited_there mode log (at_d i) (at i)) ∙ (and_parts (is_waiting _ b) _ wakes).1 in
    subst (λ ns. Contains ns n) (sym is) ((Contains-filter (λ (m : ℕ). is_awaited_there mode log (slice_get v.held c.args.number) (slice_get v.held m)) c.as_slice.result.now n).1
    (awaits, subst (λ ns. Contains ns n) (sym c.as_slice.ensures.value) (c.in_ok-named.ensures.all d b n at_d at wakes))))

pub returns-clause-waits : goal.returns-clause-waits
returns-clause-waits c = if_ok_then c.waiters.result c.waiters.ensures (λ those is n has.
    let v = c.args.tables.now in let log = log_of v in let mode = c.args.mode in
    ((Contains-filter (λ (m : ℕ). is_awaited_there mode log (slice_get v.held c.args.number) (slice_get v.held m)) c.as_slice.result.now n).0 (subst (λ ns. Contains ns n) is has)).0)
