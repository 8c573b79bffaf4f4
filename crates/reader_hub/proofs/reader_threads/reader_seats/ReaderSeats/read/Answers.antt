use Rattle.std.proofs.Common.{◌≡◌, length, map, sym, ap, ◌∙◌, subst, arith}
use Rattle.std.proofs.lemmas.List.{length-map}
use Rattle.run_status.specs.RunStatus.Readers.{reader_seen}
use Rattle.validator_core.specs.ValidatorCore.View.{told_of}
use Rattle.journal.specs.Journal.Questions.{IsInStep}
use Rattle.reader_hub.specs.ReaderThreads.Given.{given_by}
use Rattle.reader_hub.specs.ReaderThreads.LastRound.{AsksRest}
use Rattle.reader_hub.specs.ReaderThreads.Seats.{mode_of}
use Rattle.reader_hub.specs.ReaderThreads.Told.{AllTold}
use Rattle.reader_hub.proofs.ReaderThreadsLemmas.Ended.{same_count, written_back}
use Rattle.reader_hub.proofs.ReaderThreadsLemmas.Rest.{all_told}
use Rattle.reader_hub.proofs.reader_threads.reader_seats.ReaderSeats.read.Goals as goal

pub ask_rest-rest-requires : goal.ask_rest-rest-requires
ask_rest-rest-requires g c =
    let given = given_by g.S.Source.left g.S.Source.faults g.V.Verifier.says g.V.Verifier.inquiries g.V.Verifier.faults in
    let seen = reader_seen g.S.Source.left g.S.Source.faults g.V.Verifier.says g.V.Verifier.inquiries g.V.Verifier.faults in
    let count = same_count _ _ _ given seen c.args.providers.items c.run-core.result.1.items c.run-core.ensures.read in
    let same = ap length c.as_mut_slice.ensures.value in
    let few = c.requires.seats.few in
    let all = c.args.providers.ok.0 in
    record { few = omega (arith, count, same, few, all) }

pub returns-clause-count : goal.returns-clause-count
returns-clause-count g c =
    let given = given_by g.S.Source.left g.S.Source.faults g.V.Verifier.says g.V.Verifier.inquiries g.V.Verifier.faults in
    let seen = reader_seen g.S.Source.left g.S.Source.faults g.V.Verifier.says g.V.Verifier.inquiries g.V.Verifier.faults in
    let readers = c.run-core.result.1 in
    let now = c.ask_rest-rest.new.readers in
    let still : length now ≡ length readers.items = c.ask_rest-rest.auto.readers ∙ ap length c.as_mut_slice.ensures.value in
    ap length (written_back now readers.items readers.len still readers.ok.0)
    ∙ (still ∙ same_count _ _ _ given seen c.args.providers.items readers.items c.run-core.ensures.read)

pub returns-clause-told : goal.returns-clause-told
returns-clause-told g c =
    let given = given_by g.S.Source.left g.S.Source.faults g.V.Verifier.says g.V.Verifier.inquiries g.V.Verifier.faults in
    let seen = reader_seen g.S.Source.left g.S.Source.faults g.V.Verifier.says g.V.Verifier.inquiries g.V.Verifier.faults in
    let self = c.args.self in
    let providers = c.args.providers.items in
    let readers = c.run-core.result.1 in
    let now = c.ask_rest-rest.new.readers in
    let old = c.run-core.result.0 in
    let core = c.ask_rest-rest.new.core in
    let rest = c.ask_rest-rest.result in
    let before = c.run-core.ensures in
    let same = c.as_mut_slice.ensures.value in
    let still : length now ≡ length readers.items = c.ask_rest-rest.auto.readers ∙ ap length same in
    let asks = subst (λ l. AsksRest 0 (map seen l) (map seen now) old core rest) same c.ask_rest-rest.ensures in
    let count = same_count _ _ _ given seen providers readers.items before.read in
    let long = length-map readers.items seen in
    let alone : length (map seen readers.items) ≡ 1 → IsInStep (mode_of self) (told_of old) = λ one. before.alone (let all = c.args.providers.ok.0 in omega (arith, one, long, count, all)) in
    subst (λ l. AllTold (mode_of self) self.limits (map given providers) (map seen l) rest core) (sym (written_back now readers.items readers.len still readers.ok.0))
    (all_told (mode_of self) self.limits (map given providers) (map seen readers.items) (map seen now) old core rest before.read before.only alone asks before.mode before.limits before.no_base c.sound.ensures.sound)
