use Rattle.std.proofs.Common.{◌≡◌, true, false, Bool, not, refl, sym, ◌∙◌, ap, subst}
use Rattle.std.specs.BTreeSet.{contains, insert_key}
use Rattle.std.specs.Bool.{OnFalse}
use Rattle.validator_core.specs.ValidatorCore.View.{accepted_by}
use Rattle.export_core.specs.ExportLaws.Export.{IsFamily}
use Rattle.export_core.specs.ExportCore.Exported.{prefix_cmp}
use Rattle.export_core.proofs.ExportCoreLemmas.Families.{AreFound, first_found, has_among, inserted, one_more, whole_none, whole_there}
use Rattle.export_core.proofs.export_core.family.family_of.Goals as goal

pub loop-init : goal.loop-init
loop-init c = subst (AreFound (accepted_by c.args.core.now) c.args.first.now c.args.first.now)
    (sym (c.in_ok-insert.ensures.keys ∙ ap (λ ks. insert_key prefix_cmp ks c.args.first.now) c.new-family.ensures.empty))
    (first_found (accepted_by c.args.core.now) c.args.first.now)

pub returns-in_default : goal.returns-in_default
returns-in_default c = whole_none (accepted_by c.args.core.now) c.args.first.now c.loop.last c.loop.family.keys c.loop.invariant (sym c.delegator_of.ensures ∙ c.in_default.is)

not_new : (b : Bool) → not b ≡ false → b ≡ true
not_new true h = refl
not_new false h = cc

on_false : {P : Type 0} (b : Bool) → b ≡ false → OnFalse b P → P
on_false true is h = cc
on_false false is h = h

pub returns-then-not-branch : goal.returns-then-not-branch
returns-then-not-branch c =
    let is = sym c.delegator_of.ensures ∙ c.in-Some.is in
    let there = has_among c.loop.family c.in-Some.delegator (not_new (contains prefix_cmp c.loop.family c.in-Some.delegator) (sym c.in_ok-insert-2.ensures.added ∙ c.if-not-branch.true)) in
    subst (IsFamily (accepted_by c.args.core.now) c.args.first.now) (sym (on_false c.in_ok-insert-2.field-0 c.if-not-branch.true c.in_ok-insert-2.ensures.unchanged))
    (whole_there (accepted_by c.args.core.now) c.args.first.now c.loop.last c.loop.family.keys c.loop.invariant c.in-Some.delegator is there)

pub loop-preserved : goal.loop-preserved
loop-preserved c = one_more (accepted_by c.args.core.now) c.args.first.now c.loop.last c.loop.family.keys c.loop.invariant c.in-Some.delegator (sym c.delegator_of.ensures ∙ c.in-Some.is)
    c.insert-in-loop.new.self.keys (inserted c.loop.family c.insert-in-loop.new.self c.in-Some.delegator c.in_ok-insert-2.ensures.updates.0)
