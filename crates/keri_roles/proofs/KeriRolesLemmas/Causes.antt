-- Why a reader of `check`, `make`, `gen` or `rehearse` closed by a fault.
use Rattle.std.proofs.Common.{◌≡◌, ℕ, inr, true, false, List, [], ◌∷◌, Option, Some, None, refl, sym, ◌∙◌, ap}
use Rattle.std.specs.Prelude.{codes, is_none, MatchOption}
use Rattle.lists.specs.KeriSpecs.Causes.{Rose}
use Rattle.cesr_codes.specs.declared.digest.Digest.{Digest}
use Rattle.keri_outside.specs.declared.limits.Limits.{Limits}
use Rattle.journal.specs.declared.journal.refusal.Refusal.{Refusal}
use Rattle.verifier_link.specs.declared.served.Served.{Served}
use Rattle.verifier_link.specs.declared.served.Served.TheVariants as serving
use Rattle.run_status.specs.declared.run_status.close.Close.{Close}
use Rattle.run_status.specs.declared.run_status.close.Close.TheVariants.{ReadFault, VerifierFault, OutOfMemory}
use Rattle.keri_roles.specs.KeriRoles.Check.{IsChecked, OwesChecks}
use Rattle.keri_roles.specs.KeriRoles.Commands.{IsGenerated}
use Rattle.run_status.specs.RunStatus.Readers.{VerifierShown}
use Rattle.keri_outside.specs.Shown.{SinkShown, SourceShown}
use Rattle.keri_roles.specs.CoreRoles.CoreTold.{last_close}
use Rattle.keri_roles.specs.KeriRoles.Made.{IsMade, IsMadeAlone, IsMadeBehind, given_alone, given_behind}
use Rattle.keri_roles.specs.KeriRoles.Rehearsed.{IsRehearsed, Serves, serving_close}
use Rattle.run_status.specs.RunRecord.Run.{Run, AreCaused, VerifierRose}
use Rattle.keri_roles.specs.CoreRoles.Work.{Work}
use Rattle.keri_roles.proofs.KeriRolesLemmas.Made.{due_finds, due_signer, fourth_of, middle, second, text_asked, text_read}
use Rattle.keri_roles.proofs.CoreRolesLemmas.Causes.{each_caused, failed_last, names_unfailed, regroup, some_rose}

-- where it may be that the source and the verifier couldn't be made, the count of the outside rose
module _ (rose : Type 0) where
  check_read : (limits : Limits) (held : Option (List ℕ)) (source : Option SourceShown) (verifier : Option VerifierShown) (refused : List Refusal) (seen : List Digest) (close : Close) (owed : Option (List ℕ))
      → (is_none source ≡ true → rose)
      → OwesChecks (record { source = source; verifier = verifier; refused = refused; seen = seen; close = close }) limits held owed → close ≡ ReadFault
      → MatchOption source rose (λ s. Rose 0 s.faults)
  check_read limits held None verifier refused seen close owed out o e = out refl
  check_read limits held (Some source) verifier refused seen close None out o e = let clash : ReadFault ≡ OutOfMemory = sym e ∙ o in cc
  check_read limits held (Some source) verifier refused seen close (Some text) out o e = let closes = rw e at o.1.closes in closes.1

  check_asked : (limits : Limits) (held : Option (List ℕ)) (source : Option SourceShown) (verifier : Option VerifierShown) (refused : List Refusal) (seen : List Digest) (close : Close) (owed : Option (List ℕ))
      → OwesChecks (record { source = source; verifier = verifier; refused = refused; seen = seen; close = close }) limits held owed → close ≡ VerifierFault → ⊥
  check_asked limits held source verifier refused seen close None o e = let clash : VerifierFault ≡ OutOfMemory = sym e ∙ o in cc
  check_asked limits held None verifier refused seen close (Some text) o e = let clash : VerifierFault ≡ ReadFault = sym e ∙ o.1.fault in cc
  check_asked limits held (Some source) verifier refused seen close (Some text) o e = let closes = rw e at o.1.closes in closes

pub check_caused : (name : List ℕ) (work : Work) → IsChecked name work → AreCaused work.before work.after work.readers
check_caused name work c = rw c.one (
  record {
    source = check_read _ work.before.limits (work.before.holds name) c.reader.source c.reader.verifier c.reader.refused c.reader.seen c.reader.close work.owed
        (λ none. c.makes.rose (rw none refl)) c.owes;
    verifier = λ e. absurd (check_asked (⊥) work.before.limits (work.before.holds name) c.reader.source c.reader.verifier c.reader.refused c.reader.seen c.reader.close work.owed c.owes e);
  },
  tt,
)

alone_caused : (helper plan : List ℕ) (work : Work) → IsMadeAlone helper plan work → AreCaused work.before work.after work.readers
alone_caused helper plan work m = rw m.one (
  record {
    source = text_read work.before.limits.stream_bytes (work.before.holds plan) m.text m.reader.close _ m.reader.source (λ none. m.makes.rose (rw none refl)) m.reads.read;
    verifier = λ e. absurd (text_asked work.before.limits.stream_bytes (work.before.holds plan) m.text m.reader.close m.reader.source m.reads.read e);
  },
  tt,
)

behind_caused : (helper plan log : List ℕ) (work : Work) → IsMadeBehind helper plan log work → AreCaused work.before work.after work.readers
behind_caused helper plan log work m = let first = is_none m.plan_reader.source in let signer = is_none work.signer in rw m.two (
  record {
    source = text_read work.before.limits.stream_bytes (work.before.holds plan) m.text m.plan_reader.close _ m.plan_reader.source (λ none. m.makes.rose (rw none refl)) m.reads.read;
    verifier = λ e. absurd (text_asked work.before.limits.stream_bytes (work.before.holds plan) m.text m.plan_reader.close m.plan_reader.source m.reads.read e);
  },
  each_caused work.before.limits _ _ m.rest work.before work.after 0 m.journal.read (m.given ∷ []) (m.log_reader ∷ []) m.journal.fed.fed.each
      (names_unfailed work.before helper (log ∷ []) (m.given ∷ []) (m.is_given, tt))
      (λ some. m.makes.rose (middle first (is_none m.given.source) (is_none m.given.verifier) signer (regroup (is_none m.given.source) (is_none m.given.verifier) false ∙ some))) m.journal.each,
)

pub made_caused : (helper plan : List ℕ) (log : Option (List ℕ)) (work : Work) → IsMade helper plan log work → AreCaused work.before work.after work.readers
made_caused helper plan None work m = alone_caused helper plan work m
made_caused helper plan (Some log) work m = behind_caused helper plan log work m

-- the signer of `make` is found to have failed only where it did
pub made_signer : (helper plan : List ℕ) (log : Option (List ℕ)) (work : Work) → IsMade helper plan log work → work.besides.signer_failed ≡ true
    → MatchOption work.signer (Rose work.before.faults work.after.faults) (λ s. Rose 0 s.faults)
made_signer helper plan None work m e = due_signer (given_alone helper m.text work) work.owed work.besides _ (m.reader.close ∷ []) work.signer (λ none. m.makes.rose (second (is_none m.reader.source) none)) m.owes e
made_signer helper plan (Some log) work m e = due_signer (given_behind helper m.text m.log_reader m.journal.fed.held work) work.owed m.due _ (m.plan_reader.close ∷ m.log_reader.close ∷ last_close m.rest ∷ []) work.signer
    (λ none. m.makes.rose (fourth_of (is_none m.plan_reader.source) (is_none m.given.source) (is_none m.given.verifier) none)) m.owes (sym (ap (λ b. b.signer_failed) m.besides) ∙ e)

-- and a verifier of `make` that failed in the last round failed
pub made_rose : (helper plan : List ℕ) (log : Option (List ℕ)) (work : Work) → IsMade helper plan log work → work.besides.verifier_failed ≡ true → VerifierRose work.readers
made_rose helper plan None work m e = absurd (due_finds (given_alone helper m.text work) work.owed work.besides (λ b. b.verifier_failed) (λ signer refused. refl)
    (m.reader.close ∷ []) work.signer m.owes e)
made_rose helper plan (Some log) work m e =
    let failed = m.journal.failed (failed_last m.rest (sym (ap (λ b. b.verifier_failed) m.besides) ∙ e)) in
    rw m.two (inr (some_rose (m.given ∷ []) (m.log_reader ∷ []) (names_unfailed work.before helper (log ∷ []) (m.given ∷ []) (m.is_given, tt)) failed))

pub generated_caused : (seed logs events : ℕ) (work : Work) → IsGenerated seed logs events work → AreCaused work.before work.after work.readers
generated_caused seed logs events work c = rw c.one (record { source = λ e. absurd (c.none_failed.0 e); verifier = λ e. absurd (c.none_failed.1 e) }, tt)

-- of `rehearse`, whose source failed or couldn't be made
module _ (rose : Type 0) (most : ℕ) (held : Option (List ℕ)) (old new : SinkShown) where
  served_read : (source : Option SourceShown) (served : Served) → (is_none source ≡ true → rose) → Serves most held source old new served
      → serving_close served ≡ ReadFault → MatchOption source rose (λ s. Rose 0 s.faults)
  served_read None served out s e = out refl
  served_read (Some source) serving.ReadFault out s e = s.closes.2
  served_read (Some source) serving.End out s e = cc
  served_read (Some source) (serving.Malformed place) out s e = cc
  served_read (Some source) serving.WriteFault out s e = cc
  served_read (Some source) serving.LimitReached out s e = cc
  served_read (Some source) serving.OutOfMemory out s e = cc

served_asked : (served : Served) → serving_close served ≡ VerifierFault → ⊥
served_asked serving.End e = cc
served_asked (serving.Malformed place) e = cc
served_asked serving.ReadFault e = cc
served_asked serving.WriteFault e = cc
served_asked serving.LimitReached e = cc
served_asked serving.OutOfMemory e = cc

pub rehearsed_caused : (run : Run) → IsRehearsed run → AreCaused run.before run.after run.readers
rehearsed_caused run r = rw r.one (
  record {
    source = served_read _ run.before.limits.stream_bytes (run.before.holds (codes "-")) run.sink_before run.sink_after r.reader.source r.served
        (λ none. r.makes.rose (rw none refl)) r.serves;
    verifier = λ e. absurd (served_asked r.served e);
  },
  tt,
)
