-- From what was done with a disk that was made to what opening comes to.
use Rattle.std.proofs.Common.{◌≡◌, ◌≢◌, ◌⊎◌, inl, inr, List, ℕ, [], ◌∷◌, false, is_none, Option, Some, None, IfSome, Err, refl, sym, ◌∙◌, subst}
use Rattle.lists.specs.KeriSpecs.Causes.{Rose}
use Rattle.shelf_log.specs.KeriDisk.Calls.{Keeps}
use Rattle.shelf_log.specs.KeriDisk.Images.{DiskShown, IsDurable}
use Rattle.shelf_log.proofs.KeriDiskLemmas.Moments.{keeps_both}
use Rattle.keri_outside.specs.declared.limits.Limits.{Limits}
use Rattle.run_status.specs.RunOutside.Makings.{AreMakings}
use Rattle.run_status.specs.RunOutside.Shown.{OutsideShown, making}
use Rattle.run_status.specs.declared.run_outside.making.MakingKind.TheVariants.{Disk, OldDisk}
use Rattle.shelf_log.specs.ShelfLog.Leftover.{IsLeftover}
use Rattle.shelf_log.specs.declared.shelf_log.version.Version.TheVariants.{One, Two}
use Rattle.witness_core.specs.WitnessOpening.Answers.{Answer, Answers, AnswersBeside, AnswersRead}
use Rattle.witness_core.specs.WitnessOpening.Disks.{Becomes, BecomesBeside, HasCause, IsMade, OnlyRead}
use Rattle.witness_core.specs.WitnessOpening.Opening.{IsOpening}
use Rattle.witness_core.specs.WitnessOpening.Ways.{FillsIt, HandsBack, IsFilledOrStays, ReadsIt}
use Rattle.witness_core.specs.declared.witness_opening.fault.OpeningFault.{OpeningFault}
use Rattle.witness_core.specs.declared.witness_opening.fault.OpeningFault.TheVariants.{DiskFault}
use Rattle.witness_core.proofs.WitnessOpeningLemmas.Facts.{if_both, if_map}
use Rattle.witness_core.proofs.WitnessOpeningLemmas.Makings.{two_made}

rose_on : {P : Type 0} (old mid new : ℕ) → mid ≡ old → Rose mid new ⊎ P → Rose old new ⊎ P
rose_on old mid new same (inl rose) = inl (subst (λ (n : ℕ). Rose n new) same rose)
rose_on old mid new same (inr other) = inr other

-- the disk was made, and synced
module _ {D : Type 0} (shown : D → DiskShown) (limits : Limits) (before mid : OutsideShown) (name : List ℕ) (first synced : D)
    (makings : AreMakings (making Disk name false ∷ []) before mid) (is_made : IsMade shown (before.stored name) first) (keeps : Keeps (shown first) (shown synced)) where
  -- it alone is handed back
  module _ (named : Option (List ℕ)) (last : D) (answer : Answer) (answers : Answers limits before name named answer) (becomes : Becomes shown before named first last)
      (kept : (fault : OpeningFault) → answer ≡ Err fault → fault ≢ DiskFault → Keeps (shown first) (shown last)) where
    handed_so : (answer ≡ Err DiskFault → Rose 0 (shown last).faults) → (answer ≢ Err DiskFault → (shown last).faults ≡ 0)
        → IsOpening shown limits before mid name named (Some last) None answer
    handed_so rose same = record {
      answers = answers;
      makes = inl (record { makings = makings; none_old = refl });
      cause = record { rose = λ e. inr (inl (rose e)); same = λ other. (makings.kept refl, same other, tt) };
      leaves = record { first = first; is_made = is_made; becomes = becomes };
      kept = λ fault e other. record { first = first; is_made = is_made; keeps = kept fault e other };
      old_stays = tt;
    }

    pub handed : (disk old : Option D) → (shown synced).faults ≡ (shown first).faults → HandsBack shown synced last disk old answer
        → IsOpening shown limits before mid name named disk old answer
    handed disk old still hands =
        let none = still ∙ is_made.none_yet in
        subst (λ d. IsOpening shown limits before mid name named d old answer) (sym hands.disk_is)
        (subst (λ o. IsOpening shown limits before mid name named (Some last) o answer) (sym hands.none_old)
        (handed_so (λ e. subst (λ (n : ℕ). Rose n (shown last).faults) none (hands.rose e)) (λ other. hands.same other ∙ none)))

  stored_is : (shown synced).file ≡ before.stored name
  stored_is = keeps.file ∙ is_made.holds

  at_stored : (P : List ℕ → Type 0) → IfSome (shown synced).file P → IfSome (before.stored name) P
  at_stored P holds = subst (λ o. IfSome o P) stored_is holds

  module _ (still : (shown synced).faults ≡ (shown first).faults) where
    -- its file was read
    pub beside_read : (old_name : List ℕ) (disk old : Option D) (answer : Answer) → IfSome (shown first).file (λ file. IsLeftover file → ⊥) → ReadsIt shown synced limits disk old answer
        → IsOpening shown limits before mid name (Some old_name) disk old answer
    beside_read old_name disk old answer other reads = handed (Some old_name) reads.last answer
        (if_both (λ file. IsLeftover file → ⊥) (λ file. AnswersRead Two limits file answer) (λ file. AnswersBeside limits file (before.stored old_name) answer) (before.stored name)
        (λ file known read. record { filled = λ leftover. absurd (known leftover); read = λ n. read })
        (subst (λ o. IfSome o (λ file. IsLeftover file → ⊥)) is_made.holds other) (at_stored _ reads.answers))
        (inl (keeps_both (shown first) (shown synced) (shown reads.last) keeps reads.keeps)) (λ fault e other. keeps_both (shown first) (shown synced) (shown reads.last) keeps reads.keeps)
        disk old still reads.hands

  module _ (durable : IsDurable (shown synced)) where
    -- it was filled
    filled_or_stays : (from : Option (List ℕ)) (last : D) → IfSome (shown first).file IsLeftover → IsFilledOrStays shown synced from last → BecomesBeside shown from first last
    filled_or_stays from last leftover (inl stays) = inl (keeps_both (shown first) (shown synced) (shown last) keeps stays)
    filled_or_stays from last leftover (inr f) =
        inr (record { leftover = leftover; list = f.0; of = f.1; leaves = record { synced = synced; keeps = keeps; durable = durable; leaves = f.2 } })

    module _ (after : OutsideShown) (old_name : List ℕ) (same : mid.stored ≡ before.stored) (leftover : IfSome (shown first).file IsLeftover) where
      from_before : (P : Option (List ℕ) → Type 0) → P (mid.stored old_name) → P (before.stored old_name)
      from_before P holds = subst (λ (s : List ℕ → Option (List ℕ)). P (s old_name)) same holds

      cause_on : (disk old : Option D) (answer : Answer) → HasCause shown mid after disk old answer → HasCause shown before after disk old answer
      cause_on disk old answer cause = record {
        rose = λ e. rose_on before.faults mid.faults after.faults (makings.kept refl) (cause.rose e);
        same = λ other. let s = cause.same other in (s.0 ∙ makings.kept refl, s.1, s.2);
      }

      pub filled : (disk old : Option D) (answer : Answer) → FillsIt shown synced limits mid after old_name disk old answer
          → IsOpening shown limits before after name (Some old_name) disk old answer
      filled disk old answer fills = subst (λ d. IsOpening shown limits before after name (Some old_name) d old answer) (sym fills.disk_is) (record {
        answers = if_map IsLeftover (λ file. AnswersBeside limits file (before.stored old_name) answer) (before.stored name)
            (λ file is. record { filled = λ f. from_before (λ o. IfSome o (λ x. AnswersRead One limits x answer)) fills.answers; read = λ other. absurd (other is) })
            (subst (λ o. IfSome o IsLeftover) is_made.holds leftover);
        makes = inr (record {
          makings = two_made Disk OldDisk name old_name (is_none old) before mid after makings fills.makings;
          leftover = subst (λ o. IfSome o IsLeftover) is_made.holds leftover;
          answered = fills.answered;
        });
        cause = cause_on (Some fills.last) old answer (subst (λ d. HasCause shown mid after d old answer) fills.disk_is fills.cause);
        leaves = record {
          first = first;
          is_made = is_made;
          becomes = filled_or_stays (before.stored old_name) fills.last leftover (from_before (λ o. IsFilledOrStays shown synced o fills.last) fills.filled);
        };
        kept = λ fault e other. record { first = first; is_made = is_made; keeps = keeps_both (shown first) (shown synced) (shown fills.last) keeps (fills.kept fault e other) };
        old_stays = if_map (OnlyRead shown (mid.stored old_name)) (OnlyRead shown (before.stored old_name)) old (λ d stays. from_before (λ o. OnlyRead shown o d) stays) fills.old_stays;
      })
