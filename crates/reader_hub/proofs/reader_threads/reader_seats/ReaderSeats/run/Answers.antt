use Rattle.std.proofs.Common.{◌≡◌, ◌<◌, ◌∷◌, length, map, sym, subst, ap, ◌∙◌, arith}
use Rattle.reader_hub.specs.ReaderHub.Hubs.{head_of}
use Rattle.run_status.specs.RunStatus.Readers.{reader_seen}
use Rattle.validator_core.specs.ValidatorCore.View.{told_of}
use Rattle.reader_hub.specs.ReaderThreads.Fed.{AllRead}
use Rattle.reader_hub.specs.ReaderThreads.Given.{given_by}
use Rattle.reader_hub.specs.declared.reader_threads.job.Job.{Job}
use Rattle.reader_hub.specs.declared.reader_threads.last_round.LastRound.TheVariants.{NoneFailed}
use Rattle.reader_hub.specs.ReaderThreads.Asked.{EachAsksOnly}
use Rattle.reader_hub.proofs.ReaderThreadsLemmas.Ended.{alone_in_step, are_all, head_stays, pass_fits, passes_fit, what_was_asked, what_was_read}
use Rattle.reader_hub.proofs.ReaderThreadsLemmas.Seats.{ready_count, ready_seats, seats_fit, taken_first}
use Rattle.reader_hub.proofs.reader_threads.reader_seats.ReaderSeats.run.Goals as goal

pub remove-requires : goal.remove-requires
remove-requires g c =
    let all = c.requires.seats.all in
    let count = c.args.providers.ok.0 in
    omega (arith, all, count)

pub jobs_for-others-requires-clause-same : goal.jobs_for-others-requires-clause-same
jobs_for-others-requires-clause-same g c =
    let all = c.requires.seats.all in
    let left = c.remove.ensures.len in
    let count = c.args.self.others.ok.0 in
    omega (arith, all, left, count)

pub jobs_for-others-requires-clause-room : goal.jobs_for-others-requires-clause-room
jobs_for-others-requires-clause-room g c =
    let room = c.requires.seats.jobs in
    let few = room.1 in
    let count = c.args.self.others.ok.0 in
    (room.0, omega (arith, few, count))

pub run_all-all-requires-clause-own : goal.run_all-all-requires-clause-own
run_all-all-requires-clause-own g c κs within = (c.requires.seats.first.lock_is, c.requires.seats.first.own)

pub run_all-all-requires-clause-jobs : goal.run_all-all-requires-clause-jobs
run_all-all-requires-clause-jobs g c κs within =
    let jobs = c.jobs_for-others.result.items in
    seats_fit c.args.self.hub (head_of c.args.self.given.value) 1 jobs (ready_seats c.args.self jobs _ c.requires.seats c.jobs_for-others.ensures.passes).1

pub run_all-all-requires-clause-started : goal.run_all-all-requires-clause-started
run_all-all-requires-clause-started g c κs within =
    let ready = c.requires.seats in
    (ready.started.0, (let few = ready.started.1 in let long = ready_count c.args.self c.jobs_for-others.result c.jobs_for-others.ensures.passes in omega (arith, long, few)))

pub run_all-all-requires-clause-passes : goal.run_all-all-requires-clause-passes
run_all-all-requires-clause-passes g c κs within =
    let ready = c.requires.seats in
    (ready.passes.0, (let few = ready.passes.1 in let long = ready_count c.args.self c.jobs_for-others.result c.jobs_for-others.ensures.passes in omega (arith, long, few)))

pub run_all-all-requires-clause-readers : goal.run_all-all-requires-clause-readers
run_all-all-requires-clause-readers g c κs within =
    let ready = c.requires.seats in
    (ready.readers.0, (let few = ready.readers.1 in let long = ready_count c.args.self c.jobs_for-others.result c.jobs_for-others.ensures.passes in omega (arith, long, few)))

pub close-requires : goal.close-requires
close-requires g c =
    let left = g.S.Source.left in
    let faults = g.S.Source.faults in
    let says = g.V.Verifier.says in
    let inquiries = g.V.Verifier.inquiries in
    let failed = g.V.Verifier.faults in
    let self = c.args.self in
    let head = head_of self.given.value in
    let jobs = c.jobs_for-others.result.items in
    let own : Job g.row.S.Denot g.row.V.Denot = record { pass = self.first; extent = c.extent_beside.result; providers = c.remove.result } in
    let all = c.run_all-all.result in
    let ran = c.run_all-all.ensures in
    let seats = ready_seats self jobs _ c.requires.seats c.jobs_for-others.ensures.passes in
    record {
      pass = pass_fits left faults says inquiries failed self.limits self.hub head own jobs all ran seats.0 seats.1;
      others = passes_fit left faults says inquiries failed self.limits self.hub head own jobs all ran seats.0 seats.1;
      all = are_all left faults says inquiries failed self.limits self.hub head own jobs all ran seats.0 seats.1;
    }

pub returns : goal.returns
returns g c =
    let left = g.S.Source.left in
    let faults = g.S.Source.faults in
    let says = g.V.Verifier.says in
    let inquiries = g.V.Verifier.inquiries in
    let failed = g.V.Verifier.faults in
    let self = c.args.self in
    let ready = c.requires.seats in
    let head = head_of self.given.value in
    let jobs = c.jobs_for-others.result.items in
    let own : Job g.row.S.Denot g.row.V.Denot = record { pass = self.first; extent = c.extent_beside.result; providers = c.remove.result } in
    let all = c.run_all-all.result in
    let ran = c.run_all-all.ensures in
    let core = c.close.result.0 in
    let closed = c.close.ensures.closed in
    let no_base = c.close.ensures.no_base in
    let seats = ready_seats self jobs _ ready c.jobs_for-others.ensures.passes in
    let same = head_stays left faults says inquiries failed self.limits self.hub head own jobs all ran seats.0 seats.1 core closed in
    let some : 0 < length c.args.providers.items = (let count = c.args.providers.ok.0 in let n = ready.all in omega (arith, count, n)) in
    let parts = taken_first c.args.providers.items c.remove.result c.remove.new.self.items some c.remove.ensures.value c.remove.ensures.by_index.2 in
    let given : c.args.providers.items ≡ own.providers ∷ map (λ j. j.providers) jobs = parts ∙ ap (λ l. own.providers ∷ l) (sym c.jobs_for-others.ensures.providers) in
    let ended : c.close.result.1.items ≡ all.ends.readers.items = ap (λ v. v.items) c.close.ensures.readers in
    record {
      mode = ap (λ h. h.mode) same;
      limits = ap (λ h. h.limits) same ∙ ready.limits_are;
      no_base = no_base;
      sound = c.close.ensures.sound;
      read = subst (λ l. AllRead self.limits (told_of core) (map (given_by left faults says inquiries failed) c.args.providers.items)
          (map (reader_seen left faults says inquiries failed) l) NoneFailed) (sym ended)
          (subst (λ l. AllRead self.limits (told_of core) (map (given_by left faults says inquiries failed) l)
          (map (reader_seen left faults says inquiries failed) all.ends.readers.items) NoneFailed) (sym given)
          (what_was_read left faults says inquiries failed self.limits self.hub head own jobs all ran seats.0 seats.1 core closed ready.limits_are ready.turns no_base c.close.ensures.sound));
      only = subst (λ l. EachAsksOnly head.mode (told_of core) (map (given_by left faults says inquiries failed) c.args.providers.items)
          (map (reader_seen left faults says inquiries failed) l)) (sym ended)
          (subst (λ l. EachAsksOnly head.mode (told_of core) (map (given_by left faults says inquiries failed) l) (map (reader_seen left faults says inquiries failed) all.ends.readers.items)) (sym given)
          (what_was_asked left faults says inquiries failed self.limits self.hub head own jobs all ran seats.0 seats.1 core closed));
      alone = λ is.
          let few : length self.others.items ≡ 0 = (let n = ready.all in omega (arith, is, n)) in
          let none : length jobs ≡ 0 = (let same = ready_count self c.jobs_for-others.result c.jobs_for-others.ensures.passes in let count = c.jobs_for-others.result.ok.0 in omega (arith, few, same, count)) in
          let free : c.len.result ≡ 0 = (let n = c.len.ensures in let count = c.args.self.others.ok.0 in omega (arith, few, count, n)) in
          alone_in_step left faults says inquiries failed self.limits self.hub head own jobs all ran seats.0 seats.1 core closed none (c.extent_beside.ensures.alone free);
    }
