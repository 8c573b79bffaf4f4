use Rattle.std.proofs.Common.{[], ◌∷◌, take, get_or, inl, inr, sym, subst, ap, ◌∙◌}
use Rattle.std.specs.Prelude.{Contains}
use Rattle.std.proofs.lemmas.List.{take_all, take_more}
use Rattle.std.proofs.lemmas.List.Elements.{Contains-append_cases, Contains-append_left, Contains-append_right}
use Rattle.escrow.proofs.EventIndexLemmas.Orders.{Contains-one}
use Rattle.validator_core.proofs.TableChangesLemmas.Lasts.{got_any}
use Rattle.validator_core.proofs.table_changes.woken.push_named.Goals as goal

pub returns-in_err-extend_from_slice-clause-kept : goal.returns-in_err-extend_from_slice-clause-kept
returns-in_err-extend_from_slice-clause-kept c = λ n has. subst (λ l. Contains l n) (sym c.in_err-extend_from_slice.ensures.items) (c.loop-seal.invariant.kept n has)

pub loop-seal-preserved : goal.loop-seal-preserved
loop-seal-preserved c =
    let items = c.in_ok-extend_from_slice.ensures.items in
    let xs = c.args.seals.now in let i = c.loop-seal.seal-index in
    record {
      kept = λ n has. subst (λ l. Contains l n) (sym items) (Contains-append_left c.loop-seal.numbers.items c.named.result.now n (c.loop-seal.invariant.kept n has));
      named = λ n seal has waits. subst (λ l. Contains l n) (sym items)
          (elim (Contains-append_cases (take i xs) (get_or xs i seal ∷ []) seal (subst (λ ys. Contains ys seal) (take_more xs i seal c.loop-seal-test.true) has)) [
            | inl front ↦ Contains-append_left c.loop-seal.numbers.items c.named.result.now n (c.loop-seal.invariant.named n seal front waits)
            | inr last ↦ Contains-append_right c.loop-seal.numbers.items c.named.result.now n ((c.named.ensures.those n).1 (waits.0, waits.1, waits.2 ∙ ap (λ s. s.said) (sym (Contains-one (get_or xs i seal) seal last) ∙ got_any xs i seal _ c.loop-seal-test.true)))
          ]);
    }

pub returns-clause-named : goal.returns-clause-named
returns-clause-named c = λ n seal has waits. c.loop-seal.invariant.named n seal (subst (λ ys. Contains ys seal) (sym (take_all c.loop-seal.seal-index c.args.seals.now c.loop-seal-test.false)) has) waits
