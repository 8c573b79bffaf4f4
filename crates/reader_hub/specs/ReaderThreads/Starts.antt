-- Readers that were started, and how they ended.
use Rattle.std.specs.Prelude.{◌≡◌, ℕ, Bool, List, [], ◌∷◌, ◌++◌, map, Option}
use Rattle.cesr_codes.specs.declared.key.Key.{Key}
use Rattle.cesr_codes.specs.declared.sig.Sig.{Sig}
use Rattle.keri_outside.specs.declared.inquiry.Inquiry.{Inquiry}
use Rattle.keri_outside.specs.declared.limits.Limits.{Limits}
use Rattle.run_status.specs.declared.run_status.reader_end.ReaderEnd.{ReaderEnd}
use Rattle.turn_lock.specs.Locks.{limit_of}
use Rattle.reader_hub.specs.ReaderThreads.Jobs.{HasRun}
use Rattle.reader_hub.specs.declared.reader_threads.job.Job.{Job}
use Rattle.reader_hub.specs.declared.reader_threads.job.JobEnd.{JobEnd}
use Rattle.reader_hub.specs.declared.reader_threads.ran.AllEnds.{AllEnds}
use Rattle.reader_hub.specs.declared.reader_threads.started.Ends.{Ends}
use Rattle.reader_hub.specs.declared.reader_threads.started.Started.{Started}
use Rattle.reader_hub.specs.declared.reader_threads.started.Started.TheVariants.{Running, Ended}

-- R holds of each two in turn
abbrev pub EachPair : {A B : Type 0} → (A → B → Type 0) → List A → List B → Type 0
EachPair R [] [] = Unit {0}
EachPair R [] (y ∷ ys) = ⊥
EachPair R (x ∷ xs) [] = ⊥
EachPair R (x ∷ xs) (y ∷ ys) = R x y × EachPair R xs ys

module _ {S V : Type 0} (left : S → Option (List ℕ)) (faults : S → ℕ) (says : V → Key → List ℕ → Sig → Option Bool)
    (inquiries : V → Option (List Inquiry)) (verifier_faults : V → ℕ) (limits : Limits) (limit : ℕ) where
  -- it runs under the promise of its job, over a lock for so many turns, or has run
  abbrev pub IsStarted : Job S V → Started S V → Type 0
  IsStarted job (Running handle) = (handle.promise.job.value ≡ job) × (limit_of handle.promise.hub.value.turn ≡ limit) × (handle.promise.limits ≡ limits)
  IsStarted job (Ended end) = HasRun left faults says inquiries verifier_faults limits limit job end

  abbrev pub AreStarted : List (Job S V) → List (Started S V) → Type 0
  AreStarted jobs started = EachPair IsStarted jobs started

  -- these jobs were started too, behind those for which others were started
  abbrev pub StartsAll : List (Job S V) → List (Started S V) → List (Started S V) → Type 0
  StartsAll jobs old new = (front : List (Job S V)) → AreStarted front old → AreStarted (front ++ jobs) new

  -- so the reader ended, whatever the job is for which it was started
  abbrev pub EndsOne : Started S V → JobEnd S V → Type 0
  EndsOne started end = (job : Job S V) → IsStarted job started → HasRun left faults says inquiries verifier_faults limits limit job end

  -- these are left of reader 0, which ended so, and of the readers of these jobs, in order
  pub record AreEnds (first : ReaderEnd S V) (jobs : List (Job S V)) (ends : Ends S V) : Type 0 where
    pub ended : List (JobEnd S V)
    pub passes_are : ends.passes.items ≡ map (λ end. end.pass) ended
    pub readers_are : ends.readers.items ≡ first ∷ map (λ end. end.reader) ended
    pub each : EachPair (HasRun left faults says inquiries verifier_faults limits limit) jobs ended

  -- and so of each jobs for which these were started
  pub record EndsAll (first : ReaderEnd S V) (started : List (Started S V)) (ends : Ends S V) : Type 0 where
    pub ended : List (JobEnd S V)
    pub passes_are : ends.passes.items ≡ map (λ end. end.pass) ended
    pub readers_are : ends.readers.items ≡ first ∷ map (λ end. end.reader) ended
    pub each : (jobs : List (Job S V)) → AreStarted jobs started → EachPair (HasRun left faults says inquiries verifier_faults limits limit) jobs ended

  -- reader 0 has run for its job, and the others for theirs
  pub record RunsAll (own : Job S V) (jobs : List (Job S V)) (all : AllEnds S V) : Type 0 where
    pub first : ReaderEnd S V
    pub runs : HasRun left faults says inquiries verifier_faults limits limit own (record { pass = all.pass; reader = first })
    pub ends : AreEnds first jobs all.ends

  -- of these jobs, the first have ended so, and the others were started
  pub record Finished (jobs : List (Job S V)) (rest : List (Started S V)) (ended : List (JobEnd S V)) : Type 0 where
    pub done : List (Job S V)
    pub later : List (Job S V)
    pub parts : jobs ≡ done ++ later
    pub each : EachPair (HasRun left faults says inquiries verifier_faults limits limit) done ended
    pub other : AreStarted later rest
