use Rattle.std.proofs.Common.{[], length, sym, ◌∙◌, ap, subst}
use Rattle.std.proofs.lemmas.Result.{on_err_weaker}
use Rattle.validator_core.specs.Tables.View.{IsCut, rewound}
use Rattle.journal.specs.declared.journal.entry.Entry.TheVariants.{Took}
use Rattle.validator_core.proofs.AcceptanceLemmas.Rewound.{extends_then}
use Rattle.validator_core.proofs.ValidatorCoreLemmas.Cuts.{back_took, cut_took}
use Rattle.validator_core.proofs.ValidatorCoreLemmas.Outcomes.{adds_entry}
use Rattle.validator_core.proofs.validator_core.whole_entries.add_claims.Goals as goal

pub accept_from-accepted-requires-clause-left : goal.accept_from-accepted-requires-clause-left
accept_from-accepted-requires-clause-left c =
    let comes = c.in-Ok.ensures.ok in
    comes.released ∙ c.requires.left ∙ ap (λ l. length l.numbers) (sym comes.log)

pub keep_or_cut-requires : goal.keep_or_cut-requires
keep_or_cut-requires c = subst (λ m. IsCut m c.accept_from-accepted.new.tables) (sym c.mark-mark.ensures.mark)
    (cut_took c.args.tables.now c.accept_from-accepted.new.tables c.requires.sound c.requires.idle c.requires.left (extends_then c.args.tables.now c.enter_claims.new.tables c.accept_from-accepted.new.tables c.enter_claims.ensures.extends c.accept_from-accepted.ensures.extends))

pub returns-in-Ok-clause-ok : goal.returns-in-Ok-clause-ok
returns-in-Ok-clause-ok c = adds_entry c.args.mode c.args.number [] (Took c.args.reader c.args.number c.args.claims) c.args.tables.now c.enter_claims.new.tables c.accept_from-accepted.new.tables c.keep_or_cut.new.tables
    c.args.steps.now c.accept_from-accepted.new.steps c.accept_from-accepted.result c.keep_or_cut.result c.keep_or_cut.ensures.same c.in-Ok.ensures.ok c.accept_from-accepted.ensures.ok c.keep_or_cut.ensures.kept

pub returns-in-Ok-clause-err : goal.returns-in-Ok-clause-err
returns-in-Ok-clause-err c = on_err_weaker c.keep_or_cut.result
    (λ cut. cut ∙ ap (λ m. rewound m c.accept_from-accepted.new.tables) c.mark-mark.ensures.mark
    ∙ back_took c.args.tables.now c.accept_from-accepted.new.tables c.requires.sound c.requires.idle c.requires.left (extends_then c.args.tables.now c.enter_claims.new.tables c.accept_from-accepted.new.tables c.enter_claims.ensures.extends c.accept_from-accepted.ensures.extends))
    c.keep_or_cut.ensures.cut

pub rewind-requires : goal.rewind-requires
rewind-requires c = record {
  cut = subst (λ m. IsCut m c.enter_claims.new.tables) (sym c.mark-mark.ensures.mark)
      (cut_took c.args.tables.now c.enter_claims.new.tables c.requires.sound c.requires.idle c.requires.left c.enter_claims.ensures.extends);
}

pub returns-in-Err-clause-err : goal.returns-in-Err-clause-err
returns-in-Err-clause-err c = c.rewind.ensures ∙ ap (λ m. rewound m c.enter_claims.new.tables) c.mark-mark.ensures.mark
    ∙ back_took c.args.tables.now c.enter_claims.new.tables c.requires.sound c.requires.idle c.requires.left c.enter_claims.ensures.extends
