use Rattle.std.proofs.Common.{inl, inr, sym, subst}
use Rattle.std.specs.Prelude.{Contains}
use Rattle.validator_core.proofs.TableChangesLemmas.DueNumbers.{inserted_kept, inserted_or, inserted_there}
use Rattle.validator_core.proofs.validator_core.whole_entries.add_number.Goals as goal

pub returns-clause-ok : goal.returns-clause-ok
returns-clause-ok c = λ n.
    let was = c.args.due.now.keys in
    let k = c.args.number in (
      λ has. inserted_or was k n (subst (λ ks. Contains ks n) c.in_ok-insert.ensures.keys has),
      λ either. subst (λ ks. Contains ks n) (sym c.in_ok-insert.ensures.keys) (elim either [
        | inl there ↦ inserted_kept was k n there
        | inr same ↦ subst (Contains _) same (inserted_there was k)
      ]),
    )
