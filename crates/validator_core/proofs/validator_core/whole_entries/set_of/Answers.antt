use Rattle.std.proofs.Common.{[], ◌∷◌, take, get_or, inl, inr, sym, subst}
use Rattle.std.specs.Prelude.{◌↔◌, Contains}
use Rattle.std.proofs.lemmas.List.{take_all, take_more}
use Rattle.std.proofs.lemmas.List.Elements.{Contains-append_left, Contains-append_right}
use Rattle.validator_core.proofs.TableChangesLemmas.DueNumbers.{first_in, taken_or}
use Rattle.validator_core.proofs.validator_core.whole_entries.set_of.Goals as goal

pub loop-number-preserved : goal.loop-number-preserved
loop-number-preserved c =
    let xs = c.args.numbers.now in
    let i = c.loop-number.number-index in
    record {
      all = λ n. (
        λ has. (elim ((c.in_ok-add_number.ensures.ok n).0 has) [
          | inl was ↦ subst (λ ys. Contains ys n) (sym (take_more xs i 0 c.loop-number-test.true)) (Contains-append_left (take i xs) (get_or xs i 0 ∷ []) n ((c.loop-number.invariant.all n).0 was))
          | inr here ↦ subst (λ ys. Contains ys n) (sym (take_more xs i 0 c.loop-number-test.true)) (Contains-append_right (take i xs) (get_or xs i 0 ∷ []) n (subst (Contains (get_or xs i 0 ∷ [])) here (first_in (get_or xs i 0) [])))
        ]),
        λ has. (c.in_ok-add_number.ensures.ok n).1 (elim (taken_or xs i n c.loop-number-test.true has) [
          | inl front ↦ inl ((c.loop-number.invariant.all n).1 front)
          | inr here ↦ inr here
        ]),
      );
      rising = c.add_number.ensures.rising c.loop-number.invariant.rising;
    }

pub returns-clause-all : goal.returns-clause-all
returns-clause-all c = λ n. subst (λ ys. Contains c.loop-number.due.keys n ↔ Contains ys n) (take_all c.loop-number.number-index c.args.numbers.now c.loop-number-test.false) (c.loop-number.invariant.all n)
