use Rattle.std.proofs.Common.{◌∙◌, [], refl, subst}
use Rattle.validator_core.specs.ValidatorCore.Verdicts.{Asks}
use Rattle.validator_core.specs.ValidatorCore.View.{base_of, open_of, told_of}
use Rattle.validator_core.proofs.ValidatorCoreLemmas.OpenQuestions.{asks_nothing, asks_so, none_named}
use Rattle.witness_core.specs.WitnessStore.Histories.{history_of}
use Rattle.witness_core.proofs.WitnessStoreLemmas.Asking.{asks_then}
use Rattle.witness_core.proofs.WitnessStoreLemmas.Stored.{goes_more, goes_none}
use Rattle.witness_core.proofs.witness_store.open_questions.ask_open.Goals as goal

pub loop-question-init : goal.loop-question-init
loop-question-init g c = record {
  stored = c.requires.stored;
  goes_on = goes_none (history_of c.args.core.now) c.args.shelf.now.list (g.D.Disk.shown c.args.shelf.now.disk) (g.met.D.Disk.only_now c.args.shelf.now.disk) c.requires.stored.on_way c.requires.stored.holds;
  same_limits = refl;
  asks = asks_nothing (g.V.Verifier.says c.args.verifier.now) (g.V.Verifier.inquiries c.args.verifier.now) c.args.core.now [];
  same = refl;
  disk_same = refl;
  verifier_same = refl;
}

pub loop-question-preserved : goal.loop-question-preserved
loop-question-preserved g c =
    let was = c.loop-question.invariant in
    let then = c.in_ok-ask_one.ensures in
    let inquiries = g.V.Verifier.inquiries in
    record {
      stored = then.stored;
      goes_on = goes_more (history_of c.loop-question.core) (history_of c.ask_one.new.core) c.args.shelf.now.list c.loop-question.shelf.list c.ask_one.new.shelf.list
          (g.D.Disk.shown c.args.shelf.now.disk) (g.D.Disk.shown c.loop-question.shelf.disk) (g.D.Disk.shown c.ask_one.new.shelf.disk) was.goes_on was.stored.all then.goes_on;
      same_limits = then.limits ∙ was.same_limits;
      asks = asks_then (g.V.Verifier.says c.args.verifier.now) (inquiries c.args.verifier.now) (inquiries c.loop-question.verifier) (inquiries c.ask_one.new.verifier) c.args.core.now c.loop-question.core c.ask_one.new.core [] was.asks
          (subst (λ says. Asks says (inquiries c.loop-question.verifier) (inquiries c.ask_one.new.verifier) c.loop-question.core c.ask_one.new.core []) was.same then.heard);
      same = then.same ∙ was.same;
      disk_same = then.disk_same ∙ was.disk_same;
      verifier_same = then.verifier_same ∙ was.verifier_same;
    }

pub returns-in_err-ask_one-clause-goes_on : goal.returns-in_err-ask_one-clause-goes_on
returns-in_err-ask_one-clause-goes_on g c =
    let was = c.loop-question.invariant in
    goes_more (history_of c.loop-question.core) (history_of c.ask_one.new.core) c.args.shelf.now.list c.loop-question.shelf.list c.ask_one.new.shelf.list
    (g.D.Disk.shown c.args.shelf.now.disk) (g.D.Disk.shown c.loop-question.shelf.disk) (g.D.Disk.shown c.ask_one.new.shelf.disk) was.goes_on was.stored.all c.ask_one.ensures.goes_on

pub returns-in_err-ask_one-clause-asks : goal.returns-in_err-ask_one-clause-asks
returns-in_err-ask_one-clause-asks g c =
    let was = c.loop-question.invariant in
    let inquiries = g.V.Verifier.inquiries in
    asks_then (g.V.Verifier.says c.args.verifier.now) (inquiries c.args.verifier.now) (inquiries c.loop-question.verifier) (inquiries c.ask_one.new.verifier) c.args.core.now c.loop-question.core c.ask_one.new.core (open_of c.ask_one.new.core) was.asks
    (subst (λ says. Asks says (inquiries c.loop-question.verifier) (inquiries c.ask_one.new.verifier) c.loop-question.core c.ask_one.new.core (open_of c.ask_one.new.core)) was.same c.ask_one.ensures.asks)

pub returns-clause-asks : goal.returns-clause-asks
returns-clause-asks g c =
    asks_so (g.V.Verifier.says c.args.verifier.now) (g.V.Verifier.inquiries c.args.verifier.now) (g.V.Verifier.inquiries c.loop-question.verifier) c.args.core.now c.loop-question.core
    (open_of c.loop-question.core) c.loop-question.invariant.asks

pub returns-clause-none_open : goal.returns-clause-none_open
returns-clause-none_open g c =
    let core = c.loop-question.core in
    none_named core.mode (base_of core) (told_of core) core.held (rw c.in_default.is at c.next_question.ensures)
