-- Readers that met no fault read their streams through, and no question is open behind them.
use Rattle.std.proofs.Common.{◌≡◌, ◌≢◌, ℕ, ◌+◌, ◌<◌, ◌⊎◌, inl, inr, true, List, [], ◌∷◌, Option, Some, None, refl, sym, ap, subst, arith}
use Rattle.std.specs.Prelude.{All, IfSome, IsSome}
use Rattle.std.proofs.lemmas.List.Elements.{All-cons, All-head, All-nil, All-tail}
use Rattle.cesr_stream.specs.declared.message.Message.{Message}
use Rattle.cesr_stream.specs.Items.{Placed}
use Rattle.cesr_stream.specs.Reading.{Reading}
use Rattle.keri_outside.specs.declared.limits.Limits.{Limits}
use Rattle.journal.specs.declared.journal.mode.Mode.{Mode}
use Rattle.journal.specs.Journal.Feeds.{Fed, FeedEach, reader_of}
use Rattle.journal.specs.Journal.History.{Told as ToldEntry, bodies}
use Rattle.journal.specs.Journal.Questions.{questions, raised}
use Rattle.key_state.specs.Same.{distinct}
use Rattle.run_status.specs.declared.run_status.close.Close.{Close}
use Rattle.run_status.specs.declared.run_status.close.Close.TheVariants.{End, Bad, ReadFault, VerifierFault, SignerFault, DiskFault, WriteFault, Malformed, LimitReached, OutOfMemory}
use Rattle.run_status.specs.RunStatus.Readers.{Reader, VerifierShown}
use Rattle.keri_outside.specs.Shown.{SourceShown}
use Rattle.validator_core.specs.ValidatorCore.View.{CoreView, told_of}
use Rattle.reader_hub.specs.declared.reader_threads.last_round.LastRound.{LastRound}
use Rattle.reader_hub.specs.declared.reader_threads.last_round.LastRound.TheVariants.{NoneFailed, VerifierFailed, OutOfMemory as NoMemory}
use Rattle.reader_hub.specs.ReaderThreads.Fed.{EndsReader, ReadEach, ReadsBy, ends_of}
use Rattle.reader_hub.specs.ReaderThreads.Given.{Given}
use Rattle.reader_hub.specs.ReaderThreads.Told.{AllTold, EachFailed, FailedIfThere, HasFailed, SomeFailed}
use Rattle.keri_roles.specs.CoreRoles.Through.{is_through}
use Rattle.keri_roles.specs.CoreRoles.CoreTold.{HasBoth, IsComplete, MetNoFault}
use Rattle.keri_roles.proofs.CoreRolesLemmas.WholeStreams.{fed_by_all}

-- what is there isn't lacking
lost : {A : Type 0} (o : Option A) → IsSome o → o ≡ None → ⊥
lost None there none = cc
lost (Some x) there none = cc

-- a verifier whose count is zero hasn't failed
not_since : (given left : Option VerifierShown) → IfSome left (λ v. v.faults ≡ 0) → HasFailed given left → ⊥
not_since None left zero failed = failed
not_since (Some v) None zero failed = failed
not_since (Some v) (Some w) zero failed = omega (arith, failed, zero)

not_there : (given : VerifierShown) (left : Option VerifierShown) → IsSome left → IfSome left (λ v. v.faults ≡ 0) → FailedIfThere (Some given) left → ⊥
not_there v None there zero failed = cc
not_there v (Some w) there zero failed = omega (arith, failed, zero)

none_since : (given : List Given) (readers : List Reader) → All MetNoFault readers → SomeFailed given readers → ⊥
none_since [] readers met failed = failed
none_since (g ∷ given) [] met failed = failed
none_since (g ∷ given) (reader ∷ readers) met (inl this) = not_since g.verifier reader.verifier (All-head MetNoFault reader readers met).verifier this
none_since (g ∷ given) (reader ∷ readers) met (inr later) = none_since given readers (All-tail MetNoFault reader readers met) later

module _ (limits : Limits) (told : List ToldEntry) (most number : ℕ) where
  -- neither the source nor the verifier of a reader failed, and so it came to the end of what it read
  module _ (source left : SourceShown) (verifier verifier_left : VerifierShown) (bytes : List ℕ) (reading : Reading) (items : List Placed) (offered : List Message) where
    through_by : (close : Close) → left.faults ≡ 0 → verifier_left.faults ≡ 0 → close ≢ LimitReached
        → EndsReader limits told most number source left verifier verifier_left bytes reading items offered close → is_through close ≡ true
    through_by End zero unfailed room closes = refl
    through_by (Bad bad) zero unfailed room closes = refl
    through_by ReadFault zero unfailed room closes = absurd (omega (arith, closes.1, zero))
    through_by VerifierFault zero unfailed room closes = absurd (omega (arith, closes.1, unfailed))
    through_by SignerFault zero unfailed room closes = absurd closes
    through_by DiskFault zero unfailed room closes = absurd closes
    through_by WriteFault zero unfailed room closes = absurd closes
    through_by (Malformed place) zero unfailed room closes = absurd closes
    through_by LimitReached zero unfailed room closes = absurd (room refl)
    through_by OutOfMemory zero unfailed room closes = absurd closes

  module _ (rest : LastRound) (reader : Reader) (bytes : List ℕ) (offered : List Message) (both : HasBoth reader) (met : MetNoFault reader) where
    no_source : reader.source ≡ None → ⊥
    no_source = lost reader.source both.source

    no_verifier : reader.verifier ≡ None → ⊥
    no_verifier = lost reader.verifier both.verifier

    one_through : (source : Option SourceShown) (verifier : Option VerifierShown) → reader.close ≢ OutOfMemory
        → ReadsBy limits told most number rest source verifier reader bytes offered → is_through reader.close ≡ true
    one_through None None memory r = absurd (no_source (ap (λ x. x.source) r.0))
    one_through None (Some verifier) memory r = absurd (no_source r.0.source_is)
    one_through (Some source) None memory r = absurd (no_verifier (ap (λ x. x.verifier) r.0))
    one_through (Some source) (Some verifier) memory r =
        let c = r.closes memory in
        through_by source r.source_left verifier r.verifier_left bytes c.reading c.items offered reader.close
        (rw r.source_is at met.source) (rw r.verifier_is at met.verifier) met.no_limit c.closes

    -- its verifier is there, and didn't fail
    one_unfailed : (source : Option SourceShown) (verifier : Option VerifierShown)
        → ReadsBy limits told most number rest source verifier reader bytes offered → FailedIfThere verifier reader.verifier → ⊥
    one_unfailed None None r failed = no_source (ap (λ x. x.source) r.0)
    one_unfailed None (Some verifier) r failed = no_source r.0.source_is
    one_unfailed (Some source) None r failed = no_verifier (ap (λ x. x.verifier) r.0)
    one_unfailed (Some source) (Some verifier) r failed = not_there verifier reader.verifier both.verifier met.verifier failed

-- of no reader nothing is told
none_told : (told : List ToldEntry) → All (λ t. reader_of t < 0) told → told ≡ []
none_told [] only = refl
none_told (t ∷ told) only = let head = All-head (λ t. reader_of t < 0) t told only in absurd (omega (arith, head))

-- and nothing is asked
nothing_asked : (mode : Mode) → questions mode [] [] ≡ []
unfolding questions raised bodies distinct
nothing_asked mode = refl

module _ (limits : Limits) (told : List ToldEntry) (most : ℕ) (rest : LastRound) where
  each_through : (number : ℕ) (read : List (List ℕ)) (given : List Given) (readers : List Reader) (feeds : FeedEach limits told number (ends_of read readers))
      → All HasBoth readers → All MetNoFault readers → All (λ r. r.close ≢ OutOfMemory) readers
      → ReadEach limits told most rest number read given readers feeds → All (λ r. is_through r.close ≡ true) readers
  each_through number [] [] [] feeds both met memory each = All-nil _
  each_through number [] [] (reader ∷ readers) feeds both met memory each = absurd each
  each_through number [] (g ∷ given) readers feeds both met memory each = absurd each
  each_through number (bytes ∷ read) [] readers feeds both met memory each = absurd each
  each_through number (bytes ∷ read) (g ∷ given) [] feeds both met memory each = absurd each
  each_through number (bytes ∷ read) (g ∷ given) (reader ∷ readers) feeds both met memory each =
      let has = All-head HasBoth reader readers both in
      let good = All-head MetNoFault reader readers met in
      let room = All-head (λ r. r.close ≢ OutOfMemory) reader readers memory in
      let later = All-tail (λ r. r.close ≢ OutOfMemory) reader readers memory in
      All-cons (λ r. is_through r.close ≡ true) reader readers
      (one_through limits told most number rest reader bytes _ has good g.source g.verifier room each.0)
      (each_through (number + 1) read given readers feeds.1 (All-tail HasBoth reader readers both) (All-tail MetNoFault reader readers met) later each.1)

  none_open : (mode : Mode) (read : List (List ℕ)) (given : List Given) (readers : List Reader) (fed : Fed limits (ends_of read readers) told)
      → All HasBoth readers → All MetNoFault readers → ReadEach limits told most rest 0 read given readers fed.each
      → (questions mode [] told ≡ []) ⊎ EachFailed given readers → questions mode [] told ≡ []
  none_open mode read given readers fed both met each (inl none) = none
  none_open mode [] [] [] fed both met each (inr failed) = subst (λ t. questions mode [] t ≡ []) (sym (none_told told fed.only)) (nothing_asked mode)
  none_open mode [] [] (reader ∷ readers) fed both met each (inr failed) = absurd each
  none_open mode [] (g ∷ given) readers fed both met each (inr failed) = absurd each
  none_open mode (bytes ∷ read) [] readers fed both met each (inr failed) = absurd each
  none_open mode (bytes ∷ read) (g ∷ given) [] fed both met each (inr failed) = absurd each
  none_open mode (bytes ∷ read) (g ∷ given) (reader ∷ readers) fed both met each (inr failed) =
      let has = All-head HasBoth reader readers both in
      let good = All-head MetNoFault reader readers met in
      absurd (one_unfailed limits told most 0 rest reader bytes _ has good g.source g.verifier each.0 failed.0)

none_last : (rest : LastRound) → rest ≢ NoMemory → (rest ≡ VerifierFailed → ⊥) → rest ≡ NoneFailed
none_last NoneFailed memory failed = refl
none_last VerifierFailed memory failed = absurd (failed refl)
none_last NoMemory memory failed = absurd (memory refl)

-- of all that told a core
pub is_complete : (mode : Mode) (limits : Limits) (given : List Given) (readers : List Reader) (rest : LastRound) (core : CoreView)
    → AllTold mode limits given readers rest core → IsComplete mode limits given readers rest (told_of core)
is_complete mode limits given readers rest core t both met had =
    let all = each_through limits (told_of core) _ rest 0 t.read.read given readers t.read.fed.each both met had.1 t.read.each in
    record {
      through = all;
      whole = fed_by_all limits (told_of core) _ rest t.read.read given readers t.read.fed all had.1 t.read.each;
      none_open = none_open limits (told_of core) _ rest mode t.read.read given readers t.read.fed both met t.read.each (t.asked had.0);
      none_failed = none_last rest had.0 (λ e. none_since given readers met (t.failed e));
    }
