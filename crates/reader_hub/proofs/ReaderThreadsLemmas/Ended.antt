-- All readers have ended: their hub can be closed, and what the core was told is what they read.
use Rattle.std.proofs.Common.{◌≡◌, ℕ, suc, ◌+◌, Bool, List, [], ◌∷◌, ◌++◌, Option, length, map, take, drop, refl, sym, ap, ◌∙◌, subst, arith}
use Rattle.std.specs.List.{AllByRecursion}
use Rattle.std.proofs.lemmas.List.{length-map, take-append-le, take_all}
use Rattle.cesr_codes.specs.declared.key.Key.{Key}
use Rattle.cesr_codes.specs.declared.sig.Sig.{Sig}
use Rattle.journal.specs.Journal.Feeds.{FeedEach, reader_of}
use Rattle.journal.specs.Journal.History.{Told}
use Rattle.journal.specs.Journal.Questions.{IsInStep}
use Rattle.keri_outside.specs.declared.inquiry.Inquiry.{Inquiry}
use Rattle.keri_outside.specs.declared.limits.Limits.{Limits}
use Rattle.run_status.specs.RunStatus.Readers.{Reader, reader_seen}
use Rattle.turn_lock.specs.Locks.{LockId, known, limit_of, lock, lock_of}
use Rattle.validator_core.specs.ValidatorCore.View.{CoreView, IsSoundCore, told_of}
use Rattle.reader_hub.specs.ReaderHub.Closing.{AreAll, ClosesAll}
use Rattle.reader_hub.specs.ReaderHub.Hubs.{head_of}
use Rattle.reader_hub.specs.declared.reader_hub.core_head.CoreHead.{CoreHead}
use Rattle.reader_hub.specs.declared.reader_hub.extent.Extent.TheVariants.{First}
use Rattle.reader_hub.specs.declared.reader_hub.hub.Hub.{Hub}
use Rattle.reader_hub.specs.ReaderThreads.Fed.{AllRead, ReadEach, ends_of}
use Rattle.reader_hub.specs.ReaderThreads.Given.{Given, given_by}
use Rattle.reader_hub.specs.ReaderThreads.Jobs.{pass_seen, passes_seen}
use Rattle.reader_hub.specs.ReaderThreads.Seats.{AreSeats, IsSeat}
use Rattle.reader_hub.specs.ReaderThreads.Starts.{EachPair, RunsAll}
use Rattle.reader_hub.specs.declared.reader_threads.job.Job.{Job}
use Rattle.reader_hub.specs.declared.reader_threads.job.JobEnd.{JobEnd}
use Rattle.reader_hub.specs.declared.reader_threads.last_round.LastRound.{LastRound}
use Rattle.reader_hub.specs.declared.reader_threads.last_round.LastRound.TheVariants.{NoneFailed}
use Rattle.reader_hub.specs.declared.reader_threads.providers.Providers.{Providers}
use Rattle.reader_hub.specs.declared.reader_threads.ran.AllEnds.{AllEnds}
use Rattle.reader_hub.specs.ReaderThreads.Asked.{EachAsksOnly}
use Rattle.reader_hub.proofs.ReaderThreadsLemmas.Alone.{told_in_step}
use Rattle.reader_hub.proofs.ReaderThreadsLemmas.Closed.{same_head, within_by}
use Rattle.reader_hub.proofs.ReaderThreadsLemmas.Kept.{kept}
use Rattle.reader_hub.proofs.ReaderThreadsLemmas.Only.{one_only, others_only}
use Rattle.reader_hub.proofs.ReaderThreadsLemmas.Readers.{Ran, RanEach, all_read, are_all as all_of, leaves, passes, passes_fit as each_fits, ran_each}

-- there are as many readers as were given something
pub as_many : (limits : Limits) (told : List Told) (most : ℕ) (rest : LastRound) (k : ℕ) (read : List (List ℕ)) (given : List Given)
    (readers : List Reader) (feeds : FeedEach limits told k (ends_of read readers)) → ReadEach limits told most rest k read given readers feeds → length readers ≡ length given
as_many limits told most rest k [] [] [] feeds r = refl
as_many limits told most rest k [] [] (reader ∷ readers) feeds r = absurd r
as_many limits told most rest k [] (g ∷ given) readers feeds r = absurd r
as_many limits told most rest k (bytes ∷ read) [] readers feeds r = absurd r
as_many limits told most rest k (bytes ∷ read) (g ∷ given) [] feeds r = absurd r
as_many limits told most rest k (bytes ∷ read) (g ∷ given) (reader ∷ readers) feeds r = ap suc (as_many limits told most rest (k + 1) read given readers feeds.1 r.1)

pub same_count : {A B : Type 0} (limits : Limits) (told : List Told) (rest : LastRound) (given : A → Given) (reader : B → Reader) (xs : List A)
    (ys : List B) → AllRead limits told (map given xs) (map reader ys) rest → length ys ≡ length xs
same_count limits told rest given reader xs ys read =
    sym (length-map ys reader) ∙ (as_many limits told _ rest 0 read.read (map given xs) (map reader ys) read.fed.each read.each ∙ length-map xs given)

-- what goes with nothing is nothing
no_pairs : {A B : Type 0} (R : A → B → Type 0) (xs : List A) (ys : List B) → length xs ≡ 0 → EachPair R xs ys → ys ≡ []
no_pairs R [] [] none each = refl
no_pairs R [] (y ∷ ys) none each = absurd each
no_pairs R (x ∷ xs) ys none each = absurd (omega (arith, none))

-- what is written to all of a slice is what there is then
pub written_back : {A : Type 0} (xs ys : List A) (n : ℕ) → length xs ≡ length ys → n ≡ length ys → take n (xs ++ drop (length xs) ys) ≡ xs
written_back xs ys n same all = take-append-le n xs (drop (length xs) ys) (omega (arith, same, all)) ∙ take_all n xs (omega (arith, same, all))

module _ {S V : Type 0} (left : S → Option (List ℕ)) (faults : S → ℕ) (says : V → Key → List ℕ → Sig → Option Bool) (inquiries : V → Option (List Inquiry)) (verifier_faults : V → ℕ)
    (limits : Limits) (hub : Hub) (head : CoreHead) (own : Job S V) (jobs : List (Job S V)) (all : AllEnds S V)
    (ran : RunsAll left faults says inquiries verifier_faults limits (limit_of hub.turn) own jobs all)
    (first : IsSeat (lock hub.turn) head 0 (length jobs) (pass_seen own.pass))
    (others : AreSeats (lock hub.turn) head 1 (passes_seen (map (λ j. j.pass) jobs))) where
  abbrev id : LockId
  id = lock hub.turn

  abbrev limit : ℕ
  limit = limit_of hub.turn

  abbrev given : List (Providers S V)
  given = map (λ j. j.providers) jobs

  abbrev ended : List (JobEnd S V)
  ended = ran.ends.ended

  abbrev end : JobEnd S V
  end = record { pass = all.pass; reader = ran.first }

  count : length jobs ≡ length given
  count = sym (length-map jobs (λ j. j.providers))

  one : Ran left faults says inquiries verifier_faults limits limit id head 0 (length jobs) own.providers end
  one = record { old = pass_seen own.pass; seat = first; extent = own.extent; run = ran.runs }

  each : RanEach left faults says inquiries verifier_faults limits limit id head 1 given ended
  each = ran_each left faults says inquiries verifier_faults limits limit id head 1 jobs ended others ran.ends.each

  pub pass_fits : lock_of all.pass ≡ id
  pass_fits = (leaves left faults says inquiries verifier_faults limits limit id head 0 (length jobs) own.providers end one).lock_is

  pub passes_fit : AllByRecursion (λ p. lock_of p ≡ id) all.ends.passes.items
  passes_fit = subst (λ l. AllByRecursion (λ p. lock_of p ≡ id) l) (sym ran.ends.passes_are) (each_fits left faults says inquiries verifier_faults limits limit id head 1 given ended each)

  pub are_all : AreAll (known all.pass ∷ map (λ p. known p) all.ends.passes.items)
  are_all = subst (λ l. AreAll (known all.pass ∷ map (λ p. known p) l)) (sym ran.ends.passes_are)
      (all_of left faults says inquiries verifier_faults limits limit id head (length jobs) own.providers end given ended count one each)

  -- the core that is given back
  module _ (core : CoreView) (closed : ClosesAll told_of head_of reader_of (known all.pass) (map (λ p. known p) all.ends.passes.items) core) where
    closes : ClosesAll told_of head_of reader_of (known all.pass) (passes left faults says inquiries verifier_faults limits limit id head ended) core
    closes = subst (λ l. ClosesAll told_of head_of reader_of (known all.pass) (map (λ p. known p) l) core) ran.ends.passes_are closed

    pub head_stays : head_of core ≡ head
    head_stays = same_head core head (leaves left faults says inquiries verifier_faults limits limit id head 0 (length jobs) own.providers end one).head_is closes.same_head

    pub what_was_read : head.limits ≡ limits → limit ≡ limits.turns → core.base ≡ 0 → IsSoundCore core
        → AllRead limits (told_of core) (map (given_by left faults says inquiries verifier_faults) (own.providers ∷ given))
        (map (reader_seen left faults says inquiries verifier_faults) all.ends.readers.items) NoneFailed
    what_was_read limits_are turns no_base stands =
        let within = within_by core limits no_base (ap (λ h. h.limits) head_stays ∙ limits_are) stands in
        subst (λ l. AllRead limits (told_of core) (map (given_by left faults says inquiries verifier_faults) (own.providers ∷ given))
        (map (reader_seen left faults says inquiries verifier_faults) l) NoneFailed) (sym ran.ends.readers_are)
        (all_read left faults says inquiries verifier_faults limits limit id head core within limits_are turns (length jobs) own.providers end given ended count one each closes)

    -- what their verifiers were asked
    pub what_was_asked : EachAsksOnly head.mode (told_of core) (map (given_by left faults says inquiries verifier_faults) (own.providers ∷ given))
        (map (reader_seen left faults says inquiries verifier_faults) all.ends.readers.items)
    what_was_asked =
        let begins = closes.begins in
        subst (λ l. EachAsksOnly head.mode (told_of core) (map (given_by left faults says inquiries verifier_faults) (own.providers ∷ given)) (map (reader_seen left faults says inquiries verifier_faults) l))
        (sym ran.ends.readers_are) (
          one_only left faults says inquiries verifier_faults limits limit id head (told_of core) 0 (length jobs) own.providers end one begins.0,
          others_only left faults says inquiries verifier_faults limits limit id head (told_of core) 1 given ended each begins.1,
        )

    -- one reader alone, who asked the first question each time
    pub alone_in_step : length jobs ≡ 0 → own.extent ≡ First → IsInStep head.mode (told_of core)
    alone_in_step none is =
        let k = kept limits limit own.extent (given_by left faults says inquiries verifier_faults own.providers).source (given_by left faults says inquiries verifier_faults own.providers).verifier
        (pass_seen own.pass) (reader_seen left faults says inquiries verifier_faults ran.first) (pass_seen all.pass) first.own ran.runs in
        let number : (known all.pass).number ≡ 0 = k.stays.number ∙ first.number_is in
        told_in_step head (known all.pass) k.share core k.own number (k.stays.splits ∙ (first.splits_are ∙ none)) (k.stays.head ∙ first.head_is) (k.alone is)
        (subst (λ l. ClosesAll told_of head_of reader_of (known all.pass) (passes left faults says inquiries verifier_faults limits limit id head l) core) (no_pairs _ jobs ended none ran.ends.each) closes)
