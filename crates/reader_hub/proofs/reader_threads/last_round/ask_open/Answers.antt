use Rattle.std.proofs.Common.{◌≡◌, ◌∙◌, [], refl, sym, subst}
use Rattle.validator_core.specs.ValidatorCore.View.{CoreView, base_of, open_of, told_of}
use Rattle.validator_core.proofs.ValidatorCoreLemmas.OpenQuestions.{first_open, none_named}
use Rattle.reader_hub.specs.ReaderThreads.LastRound.{Hears}
use Rattle.reader_hub.proofs.ReaderThreadsLemmas.Verdicts.{hears_all_but, hears_nothing, hears_on}
use Rattle.reader_hub.proofs.reader_threads.last_round.ask_open.Goals as goal

pub loop-question-init : goal.loop-question-init
loop-question-init g c = record {
  hears = hears_nothing c.args.number (g.V.Verifier.says c.args.verifier.now) (g.V.Verifier.inquiries c.args.verifier.now) c.args.core.now;
  quiet = λ none. refl;
  same = refl;
  none_failed = refl;
}

pub loop-question-preserved : goal.loop-question-preserved
loop-question-preserved g c =
    let inv = c.loop-question.invariant in
    let says = g.V.Verifier.says c.args.verifier.now in
    let inquiries = g.V.Verifier.inquiries in
    let core = c.loop-question.core in
    let some = (first_open core.mode (base_of core) (told_of core) core.held c.in-Some.question (rw c.in-Some.is at c.next_question.ensures)).0 in
    record {
      hears = hears_on c.args.number says (inquiries c.args.verifier.now) (inquiries c.loop-question.verifier) (inquiries c.ask_one.new.verifier) c.args.core.now core c.ask_one.new.core inv.hears
          (subst (λ s. Hears c.args.number s (inquiries c.loop-question.verifier) (inquiries c.ask_one.new.verifier) core c.ask_one.new.core 0) inv.same c.in-Ok.ensures.hears);
      quiet = λ none. absurd (some (subst (λ (v : CoreView). open_of v ≡ []) (sym (inv.quiet none)) none));
      same = c.ask_one.ensures.same ∙ inv.same;
      none_failed = c.in-Ok.ensures.none_failed ∙ inv.none_failed;
    }

pub returns-in-Err-clause-stops : goal.returns-in-Err-clause-stops
returns-in-Err-clause-stops g c =
    let inquiries = g.V.Verifier.inquiries in
    rw c.in-Err.ensures.err (
    hears_all_but c.args.number (g.V.Verifier.says c.args.verifier.now) (inquiries c.args.verifier.now) (inquiries c.loop-question.verifier) (inquiries c.ask_one.new.verifier) c.args.core.now c.loop-question.core
    c.loop-question.invariant.hears c.in-Err.ensures.unheard
    )

pub returns-in-Err-clause-quiet : goal.returns-in-Err-clause-quiet
returns-in-Err-clause-quiet g c =
    let inv = c.loop-question.invariant in
    let core = c.loop-question.core in
    let some = (first_open core.mode (base_of core) (told_of core) core.held c.in-Some.question (rw c.in-Some.is at c.next_question.ensures)).0 in
    λ none. absurd (some (subst (λ (v : CoreView). open_of v ≡ []) (sym (inv.quiet none)) none))

pub returns-clause-none_open : goal.returns-clause-none_open
returns-clause-none_open g c =
    let core = c.loop-question.core in
    none_named core.mode (base_of core) (told_of core) core.held (rw c.in_default.is at c.next_question.ensures)
