use Rattle.std.proofs.Common.{rules, ◌≡◌, List, ◌∷◌, [], map, sym}
use denote.Enum.Bare.{same_true}
use Rattle.std.proofs.lemmas.List.{nil_from_length}
use Rattle.run_status.specs.RunStatus.Readers.{Reader, reader_seen}
use Rattle.reader_hub.specs.contracts.reader_threads.last_round.LastRound.{the_type}
use Rattle.reader_hub.specs.declared.reader_threads.last_round.LastRound.TheVariants.{OutOfMemory}
use Rattle.reader_hub.proofs.ReaderThreadsLemmas.Rounds.{rest_none, rest_on, rest_out}
use Rattle.reader_hub.proofs.reader_threads.last_round.+ask_from.Goals as goal

pub returns-in_default : goal.returns-in_default
returns-in_default g t c =
    let none : c.args.readers.now ≡ [] = nil_from_length c.args.readers.now c.in_default.ensures.cases in
    rw none (rest_none c.args.number c.args.core.now)

pub returns-then-eq : goal.returns-then-eq
returns-then-eq g t c =
    let seen = reader_seen g.S.Source.left g.S.Source.faults g.V.Verifier.says g.V.Verifier.inquiries g.V.Verifier.faults in
    let some : c.args.readers.now ≡ c.in-Some.first.now ∷ c.in-Some.others.now = search rules in
    let out : c.ask_reader-here.result ≡ OutOfMemory = same_true the_type (search rules) _ _ (sym c.if-eq.ensures) in
    let others : List Reader = map seen c.in-Some.others.now in
    rw some (rest_out c.args.number (seen c.in-Some.first.now) (seen c.ask_reader-here.new.reader) others c.args.core.now c.ask_reader-here.new.core c.ask_reader-here.result out c.ask_reader-here.ensures)

pub returns : goal.returns
returns g t c =
    let seen = reader_seen g.S.Source.left g.S.Source.faults g.V.Verifier.says g.V.Verifier.inquiries g.V.Verifier.faults in
    let some : c.args.readers.now ≡ c.in-Some.first.now ∷ c.in-Some.others.now = search rules in
    rw (some, c.join.ensures) (rest_on c.args.number (seen c.in-Some.first.now) (seen c.ask_reader-here.new.reader) (map seen c.in-Some.others.now) (map seen c.ask_from-later.new.readers) c.args.core.now
    c.ask_reader-here.new.core c.ask_from-later.new.core c.ask_reader-here.result c.ask_from-later.result c.ask_reader-here.ensures c.ask_from-later.ensures)
