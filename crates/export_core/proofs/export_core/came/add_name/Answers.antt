use Rattle.std.proofs.Common.{subst}
use Rattle.std.specs.Prelude.{Contains}
use Rattle.escrow.specs.EventIndex.Keys.{numbers_at}
use Rattle.validator_core.specs.Tables.Hints.{KeepsBelow}
use Rattle.export_core.specs.ExportCore.Came.{name_cmp}
use Rattle.export_core.proofs.ExportCoreLemmas.Texts.{on_ok_so}
use Rattle.export_core.proofs.export_core.came.add_name.Goals as goal

pub returns-clause-added : goal.returns-clause-added
returns-clause-added c = on_ok_so c.add.result c.add.ensures.added (λ h.
    subst (λ q. Contains (numbers_at name_cmp c.add.new.self q) c.args.place) c.name_of.ensures
    (subst (Contains (numbers_at name_cmp c.add.new.self c.name_of.result)) c.in_ok-number.ensures.ok h))

pub returns-clause-kept : goal.returns-clause-kept
returns-clause-kept c = on_ok_so c.add.result c.add.ensures.added (λ h.
    subst (λ k. KeepsBelow k (numbers_at name_cmp c.args.index.now) (numbers_at name_cmp c.add.new.self)) c.in_ok-number.ensures.ok c.add.ensures.kept)
