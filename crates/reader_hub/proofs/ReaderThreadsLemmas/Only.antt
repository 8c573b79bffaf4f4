-- Verifiers were asked only what is told or open.
use Rattle.std.proofs.Common.{◌≡◌, ℕ, ◌+◌, Bool, List, [], ◌∷◌, Option, Some, None, map, sym, ap, subst}
use Rattle.std.specs.List.{AllByRecursion}
use mathlib.Core.List.{IsPrefix}
use Rattle.cesr_codes.specs.declared.key.Key.{Key}
use Rattle.cesr_codes.specs.declared.sig.Sig.{Sig}
use Rattle.keri_outside.specs.declared.inquiry.Inquiry.{Inquiry}
use Rattle.keri_outside.specs.declared.limits.Limits.{Limits}
use Rattle.journal.specs.declared.journal.mode.Mode.{Mode}
use Rattle.journal.specs.Journal.History.{Told}
use Rattle.run_status.specs.RunStatus.Readers.{Reader, VerifierShown, reader_seen}
use Rattle.keri_outside.specs.Shown.{SourceShown}
use Rattle.turn_lock.specs.Locks.{LockId}
use Rattle.reader_hub.specs.declared.reader_hub.core_head.CoreHead.{CoreHead}
use Rattle.reader_hub.specs.declared.reader_hub.extent.Extent.{Extent}
use Rattle.reader_hub.proofs.SharedReaderLemmas.Known.{only_later, only_none, only_on}
use Rattle.reader_hub.specs.ReaderThreads.Asked.{AsksOnlyIfThere, EachAsksOnly, EachGoesOn}
use Rattle.reader_hub.specs.ReaderThreads.Given.{Given, given_by}
use Rattle.reader_hub.specs.ReaderThreads.Jobs.{pass_seen}
use Rattle.reader_hub.specs.ReaderThreads.Runs.{PassSeen, RunsBy}
use Rattle.reader_hub.specs.declared.reader_threads.job.JobEnd.{JobEnd}
use Rattle.reader_hub.specs.declared.reader_threads.providers.Providers.{Providers}
use Rattle.reader_hub.proofs.ReaderThreadsLemmas.Readers.{Ran, RanEach, leaves, passes, readers}

module _ (mode : Mode) where
  -- a verifier that wasn't asked
  pub unasked_there : (told : List Told) (o : Option VerifierShown) → AsksOnlyIfThere mode told o o
  unasked_there told None = tt
  unasked_there told (Some v) = only_none v.inquiries mode told

  pub still_each : (told : List Told) (rs : List Reader) → EachGoesOn mode told rs rs
  still_each told [] = tt
  still_each told (r ∷ rs) = (unasked_there told r.verifier, still_each told rs)

  module _ (xs ys : List Told) (begins : IsPrefix xs ys) where
    -- more was told since
    pub there_later : (o p : Option VerifierShown) → AsksOnlyIfThere mode xs o p → AsksOnlyIfThere mode ys o p
    there_later None None a = tt
    there_later None (Some w) a = absurd a
    there_later (Some v) None a = absurd a
    there_later (Some v) (Some w) a = only_later mode xs ys begins v.inquiries w.inquiries a

    -- and more was asked
    there_on : (o p q : Option VerifierShown) → AsksOnlyIfThere mode xs o p → AsksOnlyIfThere mode ys p q → AsksOnlyIfThere mode ys o q
    there_on None None q a b = b
    there_on None (Some w) q a b = absurd a
    there_on (Some v) None q a b = absurd a
    there_on (Some v) (Some w) None a b = absurd b
    there_on (Some v) (Some w) (Some u) a b = only_on mode xs ys begins v.inquiries w.inquiries u.inquiries a b

    pub each_only_on : (given : List Given) (olds news : List Reader) → EachAsksOnly mode xs given olds → EachGoesOn mode ys olds news → EachAsksOnly mode ys given news
    each_only_on [] [] [] a b = tt
    each_only_on [] [] (s ∷ news) a b = absurd b
    each_only_on [] (r ∷ olds) news a b = absurd a
    each_only_on (g ∷ given) [] news a b = absurd a
    each_only_on (g ∷ given) (r ∷ olds) [] a b = absurd b
    each_only_on (g ∷ given) (r ∷ olds) (s ∷ news) a b = (there_on g.verifier r.verifier s.verifier a.0 b.0, each_only_on given olds news a.1 b.1)

-- of a reader that has run, by all that is told
pub run_only : (limits : Limits) (limit : ℕ) (extent : Extent) (source : Option SourceShown) (verifier : Option VerifierShown) (old : PassSeen) (reader : Reader) (new : PassSeen) (head : CoreHead) (told : List Told)
    → RunsBy limits limit extent source verifier old reader new → new.pass.head ≡ Some head → IsPrefix new.pass.seen told → AsksOnlyIfThere head.mode told verifier reader.verifier
run_only limits limit extent None verifier old reader new head told run head_is begins =
    subst (AsksOnlyIfThere head.mode told verifier) (sym (ap (λ r. r.verifier) run.1)) (unasked_there head.mode told verifier)
run_only limits limit extent (Some source) None old reader new head told run head_is begins =
    subst (AsksOnlyIfThere head.mode told None) (sym (ap (λ r. r.verifier) run.1)) tt
run_only limits limit extent (Some source) (Some verifier) old reader new head told run head_is begins =
    subst (AsksOnlyIfThere head.mode told (Some verifier)) (sym run.verifier_is)
    (only_later head.mode new.pass.seen told begins verifier.inquiries run.verifier_left.inquiries (run.reads.only head head_is))

module _ {S V : Type 0} (left : S → Option (List ℕ)) (faults : S → ℕ) (says : V → Key → List ℕ → Sig → Option Bool) (inquiries : V → Option (List Inquiry)) (verifier_faults : V → ℕ)
    (limits : Limits) (limit : ℕ) (id : LockId) (head : CoreHead) (told : List Told) where
  pub one_only : (k splits : ℕ) (s : Providers S V) (e : JobEnd S V) → Ran left faults says inquiries verifier_faults limits limit id head k splits s e → IsPrefix (pass_seen e.pass).pass.seen told
      → AsksOnlyIfThere head.mode told (given_by left faults says inquiries verifier_faults s).verifier (reader_seen left faults says inquiries verifier_faults e.reader).verifier
  one_only k splits s e r begins =
      run_only limits limit r.extent _ _ r.old (reader_seen left faults says inquiries verifier_faults e.reader) (pass_seen e.pass) head told r.run
      (leaves left faults says inquiries verifier_faults limits limit id head k splits s e r).head_is begins

  pub others_only : (k : ℕ) (others : List (Providers S V)) (ends : List (JobEnd S V)) → RanEach left faults says inquiries verifier_faults limits limit id head k others ends
      → AllByRecursion (λ q. IsPrefix q.seen told) (passes left faults says inquiries verifier_faults limits limit id head ends)
      → EachAsksOnly head.mode told (map (given_by left faults says inquiries verifier_faults) others) (readers left faults says inquiries verifier_faults limits limit id head ends)
  others_only k [] [] r begins = tt
  others_only k [] (e ∷ ends) r begins = absurd r
  others_only k (s ∷ others) [] r begins = absurd r
  others_only k (s ∷ others) (e ∷ ends) r begins = (one_only k 0 s e r.0 begins.0, others_only (k + 1) others ends r.1 begins.1)
