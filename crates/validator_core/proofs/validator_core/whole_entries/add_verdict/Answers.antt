use Rattle.std.proofs.Common.{None, sym, ◌∙◌, ap, subst}
use Rattle.std.proofs.lemmas.Result.{IfOk-at_ok}
use Rattle.claim_table.specs.ClaimTable.Rows.{unheard}
use Rattle.validator_core.specs.Tables.View.{View, IsCut, rewound, with_claims}
use Rattle.validator_core.specs.TableChanges.Entries.{signature_asked}
use Rattle.validator_core.specs.ValidatorCore.Tables.{AcceptsFrom}
use Rattle.validator_core.proofs.ValidatorCoreLemmas.Cuts.{back_heard, cut_heard, undone}
use Rattle.validator_core.proofs.validator_core.whole_entries.add_verdict.Goals as goal

pub keep_or_cut-requires : goal.keep_or_cut-requires
keep_or_cut-requires c = subst (λ m. IsCut m c.accept_from-accepted.new.tables) (sym c.mark-mark.ensures.mark)
    (cut_heard (signature_asked c.args.question.now) c.args.yes c.args.reader c.args.tables.now c.enter_verdict.new.tables c.accept_from-accepted.new.tables c.requires.sound c.requires.idle c.requires.left c.requires.raised
    c.in_ok-enter_verdict.ensures.ok c.accept_from-accepted.ensures.extends)

pub returns-in-Err-clause-err : goal.returns-in-Err-clause-err
returns-in-Err-clause-err c =
    let s = signature_asked c.args.question.now in
    let is = c.in-Err.ensures.cut ∙ ap (λ m. rewound m c.accept_from-accepted.new.tables) c.mark-mark.ensures.mark
    ∙ back_heard s c.args.yes c.args.reader c.args.tables.now c.enter_verdict.new.tables c.accept_from-accepted.new.tables c.requires.sound c.requires.idle c.requires.left c.requires.raised
    c.in_ok-enter_verdict.ensures.ok c.accept_from-accepted.ensures.extends in
    c.unhear.ensures s (ap (λ (v : View). v.claims.pending) is) ∙ ap (λ (v : View). with_claims (record { rows = unheard s v.claims.rows; pending = None }) v) is
    ∙ undone s c.args.yes c.args.reader c.args.tables.now c.enter_verdict.new.tables c.accept_from-accepted.new.tables c.requires.sound c.requires.idle c.requires.left c.requires.raised
    c.in_ok-enter_verdict.ensures.ok c.accept_from-accepted.ensures.extends

pub returns-clause-ok : goal.returns-clause-ok
returns-clause-ok c = record {
  between = c.enter_verdict.new.tables;
  hears = c.in_ok-enter_verdict.ensures.ok;
  before = c.accept_from-accepted.new.tables;
  accepts = IfOk-at_ok (λ _. AcceptsFrom c.args.mode c.args.question.now.body c.enter_verdict.new.tables c.accept_from-accepted.new.tables c.args.steps.now c.accept_from-accepted.new.steps)
      (sym c.keep_or_cut.ensures.same ∙ c.in_default.is) c.accept_from-accepted.ensures.ok;
  new_is = c.close.ensures ∙ ap (λ (v : View). with_claims (record { rows = v.claims.rows; pending = None }) v) c.in_default.ensures.kept;
}
