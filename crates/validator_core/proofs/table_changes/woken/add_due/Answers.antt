use Rattle.std.proofs.Common.{inl, inr, sym, subst, ap, ◌∙◌}
use Rattle.std.specs.Prelude.{Contains, slice_get}
use Rattle.std.proofs.lemmas.List.{take_all}
use Rattle.validator_core.proofs.TableChangesLemmas.DueNumbers.{taken_or}
use Rattle.validator_core.proofs.TableChangesLemmas.Lasts.{got_contained}
use Rattle.validator_core.proofs.table_changes.woken.add_due.Goals as goal

pub loop-number-preserved : goal.loop-number-preserved
loop-number-preserved c =
    let xs = c.args.numbers.now in let i = c.loop-number.number-index in
    record {
      kept = λ n has. c.in_ok-add_if_there.ensures.kept n (c.loop-number.invariant.kept n has);
      there = λ n b has at all. (elim (taken_or xs i n c.loop-number-test.true has) [
        | inl front ↦ c.in_ok-add_if_there.ensures.kept n (c.loop-number.invariant.there n b front at all)
        | inr here ↦ subst (Contains c.add_if_there.new.due.keys) here (c.in_ok-add_if_there.ensures.there b (ap (slice_get c.args.tables.now.held) here ∙ at) all)
      ]);
      few = λ n has. (elim (c.in_ok-add_if_there.ensures.few n has) [
        | inl there ↦ c.loop-number.invariant.few n there
        | inr new ↦ inr (subst (Contains xs) new.0 (got_contained xs i 0 c.loop-number-test.true), new.1)
      ]);
      rising = λ was. c.add_if_there.ensures.rising (c.loop-number.invariant.rising was);
    }

pub returns-in_err-add_if_there-clause-rising : goal.returns-in_err-add_if_there-clause-rising
returns-in_err-add_if_there-clause-rising c = λ was. c.add_if_there.ensures.rising (c.loop-number.invariant.rising was)

pub returns-in_err-add_if_there-clause-kept : goal.returns-in_err-add_if_there-clause-kept
returns-in_err-add_if_there-clause-kept c = λ n has. c.add_if_there.ensures.kept n (c.loop-number.invariant.kept n has)

pub returns-clause-there : goal.returns-clause-there
returns-clause-there c = λ n b has at all. c.loop-number.invariant.there n b (subst (λ ys. Contains ys n) (sym (take_all c.loop-number.number-index c.args.numbers.now c.loop-number-test.false)) has) at all
