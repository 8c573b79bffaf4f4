use Rattle.std.proofs.Common.{rules, ◌≡◌, true, false, None, Some, option_map, refl, ap, inl, inr}
use Rattle.run_status.specs.RunStatus.Readers.{Reader, VerifierShown, close_found, reader_seen, verifier_seen}
use Rattle.reader_hub.specs.declared.reader_threads.last_round.LastRound.TheVariants.{NoneFailed, VerifierFailed, OutOfMemory}
use Rattle.reader_hub.proofs.ReaderThreadsLemmas.Rounds.{rest_asked, rest_unasked}
use Rattle.reader_hub.proofs.reader_threads.last_round.ask_reader.Goals as goal

pub returns-then-eq : goal.returns-then-eq
returns-then-eq g c =
    let old : Reader = reader_seen g.S.Source.left g.S.Source.faults g.V.Verifier.says g.V.Verifier.inquiries g.V.Verifier.faults c.args.reader.now in
    let failed : (close_found old.close).verifier_failed ≡ true = search rules in
    rest_unasked c.args.number old c.args.core.now (inl failed)

pub returns-in_default : goal.returns-in_default
returns-in_default g c =
    let old : Reader = reader_seen g.S.Source.left g.S.Source.faults g.V.Verifier.says g.V.Verifier.inquiries g.V.Verifier.faults c.args.reader.now in
    let none : old.verifier ≡ None = search rules in
    rest_unasked c.args.number old c.args.core.now (inr none)

pub returns-in-Ok : goal.returns-in-Ok
returns-in-Ok g c =
    let reader = reader_seen g.S.Source.left g.S.Source.faults g.V.Verifier.says g.V.Verifier.inquiries g.V.Verifier.faults in
    let seen = verifier_seen g.S.Source.left g.S.Source.faults g.V.Verifier.says g.V.Verifier.inquiries g.V.Verifier.faults in
    let old : Reader = reader c.args.reader.now in
    let v : VerifierShown = seen c.in-Some.verifier in
    let w : VerifierShown = seen c.ask_open.new.verifier in
    let there : c.args.reader.now.verifier ≡ Some c.in-Some.verifier = search rules in
    let fine : (close_found old.close).verifier_failed ≡ false = search rules in
    rest_asked c.args.number old (record old { verifier = Some w }) v w c.args.core.now c.ask_open.new.core NoneFailed (ap (option_map seen) there) refl fine
    c.ask_open.ensures.same c.in-Ok.ensures.none_failed c.in-Ok.ensures.hears c.ask_open.ensures.quiet (λ e. c.in-Ok.ensures.none_open)

pub returns-in-Err-VerifierFault : goal.returns-in-Err-VerifierFault
returns-in-Err-VerifierFault g c =
    let reader = reader_seen g.S.Source.left g.S.Source.faults g.V.Verifier.says g.V.Verifier.inquiries g.V.Verifier.faults in
    let seen = verifier_seen g.S.Source.left g.S.Source.faults g.V.Verifier.says g.V.Verifier.inquiries g.V.Verifier.faults in
    let old : Reader = reader c.args.reader.now in
    let v : VerifierShown = seen c.in-Some.verifier in
    let w : VerifierShown = seen c.ask_open.new.verifier in
    let there : c.args.reader.now.verifier ≡ Some c.in-Some.verifier = search rules in
    let fine : (close_found old.close).verifier_failed ≡ false = search rules in
    rest_asked c.args.number old (record old { verifier = Some w }) v w c.args.core.now c.ask_open.new.core VerifierFailed (ap (option_map seen) there) refl fine
    c.ask_open.ensures.same (rw c.in-Err-VerifierFault.field-0-is at c.in-Err-VerifierFault.ensures.fault) c.in-Err-VerifierFault.ensures.stops c.ask_open.ensures.quiet (λ e. cc)

pub returns-in-Err-OutOfMemory : goal.returns-in-Err-OutOfMemory
returns-in-Err-OutOfMemory g c =
    let reader = reader_seen g.S.Source.left g.S.Source.faults g.V.Verifier.says g.V.Verifier.inquiries g.V.Verifier.faults in
    let seen = verifier_seen g.S.Source.left g.S.Source.faults g.V.Verifier.says g.V.Verifier.inquiries g.V.Verifier.faults in
    let old : Reader = reader c.args.reader.now in
    let v : VerifierShown = seen c.in-Some.verifier in
    let w : VerifierShown = seen c.ask_open.new.verifier in
    let there : c.args.reader.now.verifier ≡ Some c.in-Some.verifier = search rules in
    let fine : (close_found old.close).verifier_failed ≡ false = search rules in
    rest_asked c.args.number old (record old { verifier = Some w }) v w c.args.core.now c.ask_open.new.core OutOfMemory (ap (option_map seen) there) refl fine
    c.ask_open.ensures.same (rw c.in-Err-OutOfMemory.field-0-is at c.in-Err-OutOfMemory.ensures.fault) c.in-Err-OutOfMemory.ensures.stops c.ask_open.ensures.quiet (λ e. cc)
