use Rattle.std.proofs.Common.{◌≡◌, false, refl, sym, ◌∙◌, subst}
use Rattle.validator_core.specs.Tables.View.{body_of}
use Rattle.event_body.specs.declared.event_body.event.Event.{Event}
use Rattle.journal.specs.Journal.Grown.{fits}
use Rattle.validator_core.proofs.validator_core.base.fitting.Goals as goal

pub returns-else-is_fit-clause-err : goal.returns-else-is_fit-clause-err
returns-else-is_fit-clause-err c =
    let held = c.args.tables.now.held in
    let unfit = sym (rw c.as_slice.ensures at c.is_fit.ensures) ∙ c.if-is_fit.false in
    rw c.no_log.ensures (
      refl,
      λ event read. subst (λ (e : Event). fits held (body_of c.args.text.now e) ≡ false)
          (c.one_event.ensures c.args.event event c.args.text.now c.requires.held.spelled read.0) unfit,
    )
