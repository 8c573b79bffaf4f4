-- No reader that told a core closes by the fault of a signer, of a disk, or of a sink.
use Rattle.std.proofs.Common.{◌≡◌, ◌≢◌, ℕ, inl, inr, Bool, true, false, ◌||◌, List, [], ◌∷◌, ◌+◌, Option, Some, None, refl, sym, ◌∙◌, ap}
use Rattle.std.specs.List.{list_any}
use Rattle.cesr_stream.specs.declared.message.Message.{Message}
use Rattle.keri_outside.specs.declared.limits.Limits.{Limits}
use Rattle.journal.specs.declared.journal.mode.Mode.{Mode}
use Rattle.journal.specs.Journal.Feeds.{FeedEach}
use Rattle.journal.specs.Journal.History.{Told as ToldEntry}
use Rattle.run_status.specs.declared.run_status.close.Close.{Close}
use Rattle.run_status.specs.declared.run_status.close.Close.TheVariants.{End, Bad, ReadFault, VerifierFault, SignerFault, DiskFault, WriteFault, Malformed, LimitReached, OutOfMemory}
use Rattle.run_status.specs.RunStatus.Readers.{HasClose, Reader, VerifierShown, close_found}
use Rattle.keri_outside.specs.Shown.{SourceShown}
use Rattle.run_status.specs.RunOutside.Shown.{OutsideShown}
use Rattle.reader_hub.specs.ReaderThreads.Fed.{EndsStream, ReadEach, ReadsBy, ends_of}
use Rattle.reader_hub.specs.ReaderThreads.Given.{Given}
use Rattle.reader_hub.specs.declared.reader_threads.last_round.LastRound.{LastRound}
use Rattle.keri_roles.specs.CoreRoles.CoreTold.{ReadsToCore}
use Rattle.keri_roles.specs.CoreRoles.Work.{Work}

-- a reader closes so only where it serves
abbrev pub is_serving : Close → Bool
is_serving close = (close_found close).signer_failed || ((close_found close).disk_failed || (close_found close).sink_failed)

abbrev pub some_serves : List Reader → Bool
some_serves readers = list_any (λ r. is_serving r.close) readers

or_true : (a b : Bool) → a ≡ true → (a || b) ≡ true
or_true true b e = refl
or_true false b e = cc

pub or_false : (a b : Bool) → a ≡ false → b ≡ false → (a || b) ≡ false
or_false false b e f = f
or_false true b e f = cc

behind : (a b : Bool) → (a || b) ≡ false → b ≡ false
behind false b e = e
behind true b e = cc

-- where none serves, none closes so
pub has_none : (at : Close) → is_serving at ≡ true → (readers : List Reader) → some_serves readers ≡ false → HasClose at readers → ⊥
has_none at serves [] none h = h
has_none at serves (reader ∷ readers) none (inl this) =
    let clash : true ≡ false = sym (or_true (is_serving reader.close) (some_serves readers) (ap is_serving this ∙ serves)) ∙ none in cc
has_none at serves (reader ∷ readers) none (inr later) = has_none at serves readers (behind (is_serving reader.close) (some_serves readers) none) later

-- what holds of none of these closes holds of one that isn't of serving
module _ (Closes : Close → Type 0) (signer : Closes SignerFault → ⊥) (disk : Closes DiskFault → ⊥) (sink : Closes WriteFault → ⊥) where
  pub reads_only : (close : Close) → Closes close → is_serving close ≡ false
  reads_only End c = refl
  reads_only (Bad bad) c = refl
  reads_only ReadFault c = refl
  reads_only VerifierFault c = refl
  reads_only SignerFault c = absurd (signer c)
  reads_only DiskFault c = absurd (disk c)
  reads_only WriteFault c = absurd (sink c)
  reads_only (Malformed place) c = refl
  reads_only LimitReached c = refl
  reads_only OutOfMemory c = refl

module _ (limits : Limits) (told : List ToldEntry) (most number : ℕ) (rest : LastRound) (reader : Reader) (bytes : List ℕ) (offered : List Message) where
  told_only : (source : Option SourceShown) (verifier : Option VerifierShown) → ReadsBy limits told most number rest source verifier reader bytes offered
      → is_serving reader.close ≡ false
  told_only None None r = ap (λ x. is_serving x.close) r.0
  told_only None (Some verifier) r = ap is_serving r.0.close_is
  told_only (Some source) None r = ap (λ x. is_serving x.close) r.0
  told_only (Some source) (Some verifier) r = reads_only
      (λ close. close ≢ OutOfMemory → EndsStream limits told most number source r.source_left verifier r.verifier_left bytes offered close)
      (λ c. (c (λ e. cc)).closes) (λ c. (c (λ e. cc)).closes) (λ c. (c (λ e. cc)).closes) reader.close r.closes

module _ (limits : Limits) (told : List ToldEntry) (most : ℕ) (rest : LastRound) where
  pub each_serves : (number : ℕ) (read : List (List ℕ)) (given : List Given) (readers : List Reader) (feeds : FeedEach limits told number (ends_of read readers))
      → ReadEach limits told most rest number read given readers feeds → some_serves readers ≡ false
  each_serves number [] [] [] feeds each = refl
  each_serves number [] [] (reader ∷ readers) feeds each = absurd each
  each_serves number [] (g ∷ given) readers feeds each = absurd each
  each_serves number (bytes ∷ read) [] readers feeds each = absurd each
  each_serves number (bytes ∷ read) (g ∷ given) [] feeds each = absurd each
  each_serves number (bytes ∷ read) (g ∷ given) (reader ∷ readers) feeds each = or_false (is_serving reader.close) (some_serves readers)
      (told_only limits told most number rest reader bytes _ g.source g.verifier each.0) (each_serves (number + 1) read given readers feeds.1 each.1)

pub told_serves : (mode : Mode) (IsProvided : List Given → OutsideShown → OutsideShown → Type 0) (work : Work) → ReadsToCore mode IsProvided work → some_serves work.readers ≡ false
told_serves mode IsProvided work t = each_serves _ _ _ t.rest 0 t.journal.read t.given work.readers t.journal.fed.fed.each t.journal.each
