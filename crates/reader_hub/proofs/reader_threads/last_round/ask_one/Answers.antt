use Rattle.reader_hub.proofs.ReaderThreadsLemmas.Verdicts.{asks_at_most, hears_one}
use Rattle.reader_hub.proofs.reader_threads.last_round.ask_one.Goals as goal

pub returns-in-Ok-note-clause-hears : goal.returns-in-Ok-note-clause-hears
returns-in-Ok-note-clause-hears g c =
    let inquiries = g.V.Verifier.inquiries in
    hears_one c.args.number (g.V.Verifier.says c.args.verifier.now) (inquiries c.args.verifier.now) (inquiries c.verdict_on.new.verifier) c.args.core.now c.note.new.core c.args.question.now c.in-Ok.yes
    c.requires c.in-Ok.ensures.said (rw c.in-Ok.is at c.verdict_on.ensures.asked) c.in-Ok-note.ensures.noted

pub returns-in-Err-note-clause-unheard : goal.returns-in-Err-note-clause-unheard
returns-in-Err-note-clause-unheard g c =
    let inquiries = g.V.Verifier.inquiries in
    asks_at_most (inquiries c.args.verifier.now) (inquiries c.verdict_on.new.verifier) c.args.core.now c.args.question.now c.requires c.verdict_on.result c.verdict_on.ensures.asked

pub returns-in-Err-clause-unheard : goal.returns-in-Err-clause-unheard
returns-in-Err-clause-unheard g c =
    let inquiries = g.V.Verifier.inquiries in
    asks_at_most (inquiries c.args.verifier.now) (inquiries c.verdict_on.new.verifier) c.args.core.now c.args.question.now c.requires c.verdict_on.result c.verdict_on.ensures.asked
