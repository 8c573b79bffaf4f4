use Rattle.std.proofs.Common.{◌≡◌, []}
use Rattle.validator_core.specs.ValidatorCore.View.{open_of, unheard_of}
use Rattle.reader_hub.specs.ReaderThreads.LastRound.{Hears}
use Rattle.reader_hub.proofs.reader_threads.last_round.ask_open.Given as goal

-- verdicts alone were noted, for which alone the verifier was asked, and it hasn't failed
abbrev pub invariant-loop-question : goal.invariant-loop-question
invariant-loop-question g l = record {
  hears : Hears l.fn.number (g.V.Verifier.says l.fn.verifier) (g.V.Verifier.inquiries l.fn.verifier) (g.V.Verifier.inquiries l.verifier) l.fn.core l.core 0;
  quiet : open_of l.fn.core ≡ [] → l.core ≡ l.fn.core;
  same : g.V.Verifier.says l.verifier ≡ g.V.Verifier.says l.fn.verifier;
  none_failed : g.V.Verifier.faults l.verifier ≡ g.V.Verifier.faults l.fn.verifier;
}

abbrev pub decreases-loop-question : goal.decreases-loop-question
decreases-loop-question g l = unheard_of l.core
