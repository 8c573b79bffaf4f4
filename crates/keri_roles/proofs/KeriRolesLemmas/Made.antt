-- Why a reader of `make` or its signer failed, what is found where a message is due, and that nothing is lacking to the log's reader.
use Rattle.std.proofs.Common.{◌≡◌, ℕ, inl, inr, Bool, true, false, ◌||◌, List, [], ◌∷◌, Option, Some, None, refl, sym, ◌∙◌, ap}
use Rattle.std.specs.Prelude.{is_none, IfSome, MatchOption}
use Rattle.std.specs.List.{list_any, list_all}
use Rattle.std.proofs.lemmas.List.Elements.{All-head}
use Rattle.lists.specs.KeriSpecs.Causes.{Rose}
use Rattle.cesr_codes.specs.declared.key.Key.{Key}
use Rattle.cesr_codes.specs.declared.sig.Sig.{Sig}
use Rattle.keri_outside.specs.declared.limits.Limits.{Limits}
use Rattle.keri_outside.specs.declared.signing.Signing.{Signing}
use Rattle.journal.specs.declared.journal.journal.Journal.{Journal}
use Rattle.journal.specs.declared.journal.mode.Mode.TheVariants.{Local}
use Rattle.run_status.specs.RunOutside.Makings.{AreMakings}
use Rattle.run_status.specs.RunOutside.Shown.{OutsideShown}
use Rattle.run_status.specs.declared.message_feed.text_close.TextClose.{TextClose}
use Rattle.run_status.specs.declared.message_feed.text_close.TextClose.TheVariants as text
use Rattle.keri_roles.specs.declared.plan_answer.answer.PlanAnswer.{PlanAnswer}
use Rattle.keri_roles.specs.declared.plan_answer.answer.PlanAnswer.TheVariants.{Message, Refused, SignerFault}
use Rattle.keri_roles.specs.PlanAnswer.Answers.{CountsFaults}
use Rattle.run_status.specs.declared.run_status.besides.Besides.{Besides}
use Rattle.run_status.specs.declared.run_status.close.Close.{Close}
use Rattle.run_status.specs.declared.run_status.close.Close.TheVariants.{ReadFault, VerifierFault}
use Rattle.run_status.specs.RunStatus.Readers.{Reader}
use Rattle.keri_outside.specs.Shown.{SourceShown}
use Rattle.run_status.specs.RunStatus.Status.{nothing_besides}
use Rattle.reader_hub.specs.declared.reader_threads.last_round.LastRound.{LastRound}
use Rattle.reader_hub.specs.ReaderThreads.Given.{Given}
use Rattle.keri_roles.specs.CoreRoles.CoreTold.{HasBoth, IsToldBy}
use Rattle.keri_roles.specs.CoreRoles.Through.{is_through}
use Rattle.keri_roles.proofs.CoreRolesLemmas.Causes.{lacks, regroup}
use Rattle.keri_roles.proofs.CoreRolesLemmas.CompleteOver.{not_so, told_one}
use Rattle.keri_roles.specs.KeriRoles.Made.{MadeFrom, IsDue, IsDueBy, WasRead, close_of, found_in, makings_behind}
use Rattle.run_status.specs.RunRecord.Run.{SignerShown, is_out}
use Rattle.run_status.specs.RunRecord.Seen.{signer_seen}

-- the reader of a text closes so by its source alone
by_read : (closed : TextClose) → close_of closed ≡ ReadFault → closed ≡ text.ReadFault
by_read text.ReadFault e = refl
by_read text.End e = cc
by_read text.LimitReached e = cc
by_read text.OutOfMemory e = cc

by_verifier : (closed : TextClose) → close_of closed ≡ VerifierFault → ⊥
by_verifier text.ReadFault e = cc
by_verifier text.End e = cc
by_verifier text.LimitReached e = cc
by_verifier text.OutOfMemory e = cc

module _ (most : ℕ) (held : Option (List ℕ)) (bytes : List ℕ) (close : Close) where
  pub text_read : (rose : Type 0) (source : Option SourceShown) → (is_none source ≡ true → rose) → WasRead most held source bytes close → close ≡ ReadFault
      → MatchOption source rose (λ s. Rose 0 s.faults)
  text_read rose None out r e = out refl
  text_read rose (Some source) out r e = let closes = rw (by_read r.closed (sym r.closes ∙ e)) at r.reads.closes in closes.1

  pub text_asked : (source : Option SourceShown) → WasRead most held source bytes close → close ≡ VerifierFault → ⊥
  text_asked None r e = let clash : VerifierFault ≡ ReadFault = sym e ∙ r.0 in cc
  text_asked (Some source) r e = by_verifier r.closed (sym r.closes ∙ e)

-- the signer failed, where it is found to have
found_signer : (answer : PlanAnswer) (faults : ℕ) → CountsFaults 0 faults answer → (found_in answer).signer_failed ≡ true → Rose 0 faults
found_signer (Message bytes) faults c e = cc
found_signer (Refused why) faults c e = cc
found_signer SignerFault faults c e = c

module _ (given : MadeFrom) (owed : Option (List ℕ)) (besides : Besides) where
  -- nothing is found of the words, of a disk, or of a shelf, whatever is answered
  module _ (finds : Besides → Bool) (none : (signer refused : Bool) → finds (record nothing_besides { signer_failed = signer; plan_refused = refused }) ≡ false) where
    finds_in : (answer : PlanAnswer) → finds (found_in answer) ≡ false
    finds_in (Message bytes) = none false false
    finds_in (Refused why) = none false true
    finds_in SignerFault = none true false

    clash_of : {b : Besides} → besides ≡ b → finds b ≡ false → finds besides ≡ true → ⊥
    clash_of e absent some = let clash : false ≡ true = sym absent ∙ (sym (ap finds e) ∙ some) in cc

    finds_by : (out through : Bool) (signer : Option SignerShown) → IsDueBy given out through signer owed besides → finds besides ≡ true → ⊥
    finds_by true through signer d = clash_of d.1 (none (is_none signer) false)
    finds_by false false signer d = clash_of d.1 (none (is_none signer) false)
    finds_by false true None d = clash_of d.1 (none true false)
    finds_by false true (Some signer) (inl o) = clash_of o.found (finds_in o.answer)
    finds_by false true (Some signer) (inr n) = clash_of n.found (none false false)

    pub due_finds : (closes : List Close) (signer : Option SignerShown) → IsDue given closes signer owed besides → finds besides ≡ true → ⊥
    due_finds closes signer d = finds_by (list_any is_out closes) (list_all is_through closes) signer d

  signer_by : (rose : Type 0) (out through : Bool) (signer : Option SignerShown) → (is_none signer ≡ true → rose) → IsDueBy given out through signer owed besides
      → besides.signer_failed ≡ true → MatchOption signer rose (λ s. Rose 0 s.faults)
  signer_by rose out through None none d e = none refl
  signer_by rose true through (Some signer) none d e = let clash : false ≡ true = sym (ap (λ b. b.signer_failed) d.1) ∙ e in cc
  signer_by rose false false (Some signer) none d e = let clash : false ≡ true = sym (ap (λ b. b.signer_failed) d.1) ∙ e in cc
  signer_by rose false true (Some signer) none (inl o) e = found_signer o.answer signer.faults o.counts (sym (ap (λ b. b.signer_failed) o.found) ∙ e)
  signer_by rose false true (Some signer) none (inr n) e = let clash : false ≡ true = sym (ap (λ b. b.signer_failed) n.found) ∙ e in cc

  pub due_signer : (rose : Type 0) (closes : List Close) (signer : Option SignerShown) → (is_none signer ≡ true → rose) → IsDue given closes signer owed besides
      → besides.signer_failed ≡ true → MatchOption signer rose (λ s. Rose 0 s.faults)
  due_signer rose closes signer none d e = signer_by rose (list_any is_out closes) (list_all is_through closes) signer none d e

-- one of several tests is passed
pub second : (a : Bool) {b : Bool} → b ≡ true → (a || (b || false)) ≡ true
second true e = refl
second false e = rw e refl

pub fourth_of : (a b c : Bool) {d : Bool} → d ≡ true → (a || (b || (c || (d || false)))) ≡ true
fourth_of true b c e = refl
fourth_of false true c e = refl
fourth_of false false true e = refl
fourth_of false false false e = rw e refl

-- one of two tests amid others is passed
pub middle : (a b c d : Bool) → (b || (c || false)) ≡ true → (a || (b || (c || (d || false)))) ≡ true
middle true b c d e = refl
middle false true c d e = refl
middle false false true d e = refl
middle false false false d e = cc

-- what is seen of a signer
module _ {S : Type 0} (gives : S → Key → List ℕ → Option Sig) (signings : S → Option (List Signing)) (faults : S → ℕ) where
  pub signer_none : (signer : Option S) → is_none (signer_seen gives signings faults signer) ≡ is_none signer
  signer_none None = refl
  signer_none (Some s) = refl

  pub gives_seen : (signer : Option S) (shown : Key → List ℕ → Option Sig) → IfSome signer (λ s. gives s ≡ shown)
      → IfSome (signer_seen gives signings faults signer) (λ s. s.gives ≡ shown)
  gives_seen None shown e = tt
  gives_seen (Some s) shown e = e

-- of the log behind which a plan is answered
module _ {S G : Type 0} (plan log helper : List ℕ) (plan_source : Option S) (given : Given) (signer : Option G) (reader : Reader) (rest : LastRound) (journal : Journal) (limits : Limits) (before after : OutsideShown) where
  pub log_there : AreMakings (makings_behind plan log helper plan_source given.source given.verifier signer) before after
      → IsToldBy Local limits (given ∷ []) (reader ∷ []) rest journal → (Rose before.faults after.faults → ⊥) → HasBoth reader
  log_there makes t none =
      let source = is_none given.source in
      let verifier = is_none given.verifier in
      let lack = not_so (lacks (given ∷ [])) (λ e. makes.rose (middle (is_none plan_source) source verifier (is_none signer) (regroup source verifier false ∙ e))) none in
      All-head HasBoth reader [] (told_one Local limits given reader rest journal t lack)
