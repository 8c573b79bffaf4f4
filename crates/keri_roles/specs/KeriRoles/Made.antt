-- What `make` does: it reads a plan's text and maybe a log, and owes the message of the plan's event.
use Rattle.std.specs.Prelude.{◌≡◌, ℕ, ◌⊎◌, Bool, true, false, List, [], ◌∷◌, is_none, option_map, IfSome}
use Rattle.std.specs.List.{list_any, list_all}
use Rattle.std.specs.declared.option.Option.{Option}
use Rattle.std.specs.declared.option.Option.TheVariants.{None, Some}
use Rattle.lists.specs.KeriSpecs.Causes.{Rose}
use Rattle.lists.specs.KeriSpecs.Shown.{HasNone}
use Rattle.cesr_codes.specs.declared.key.Key.{Key}
use Rattle.cesr_codes.specs.declared.sig.Sig.{Sig}
use Rattle.keri_outside.specs.declared.signing.Signing.{Signing}
use Rattle.run_status.specs.RunOutside.Shown.{OutsideShown, making}
use Rattle.run_status.specs.declared.run_outside.making.Making.{Making}
use Rattle.run_status.specs.declared.run_outside.making.MakingKind.TheVariants.{Source as SourceKind, Verifier as VerifierKind, Signer as SignerKind}
use Rattle.journal.specs.declared.journal.body.Body.{Body}
use Rattle.journal.specs.declared.journal.mode.Mode.TheVariants.{Local}
use Rattle.run_status.specs.declared.message_feed.text_close.TextClose.{TextClose}
use Rattle.run_status.specs.declared.message_feed.text_close.TextClose.TheVariants as text
use Rattle.run_status.specs.MessageFeed.Texts.{ReadsText}
use Rattle.keri_roles.specs.declared.plan_answer.answer.PlanAnswer.{PlanAnswer}
use Rattle.keri_roles.specs.declared.plan_answer.answer.PlanAnswer.TheVariants.{Message, Refused, SignerFault}
use Rattle.keri_roles.specs.PlanAnswer.Answers.{IsAnswer, SignsNoMore, CountsFaults, signer_asked}
use Rattle.keri_roles.specs.PlanAnswer.Asked.{LogTold}
use Rattle.report_lines.specs.Lines.{plan_text}
use Rattle.run_status.specs.declared.run_status.besides.Besides.{Besides}
use Rattle.run_status.specs.declared.run_status.close.Close.{Close}
use Rattle.run_status.specs.declared.run_status.close.Close.TheVariants.{End, ReadFault, LimitReached, OutOfMemory}
use Rattle.run_status.specs.RunStatus.Readers.{Reader}
use Rattle.keri_outside.specs.Shown.{SourceShown}
use Rattle.run_status.specs.RunStatus.RunEnds.{refuses}
use Rattle.run_status.specs.RunStatus.Status.{nothing_besides}
use Rattle.reader_hub.specs.ReaderThreads.Given.{Given}
use Rattle.reader_hub.specs.declared.reader_threads.last_round.LastRound.{LastRound}
use Rattle.reader_hub.specs.declared.reader_threads.providers.Providers.{Providers}
use Rattle.keri_roles.specs.CoreRoles.Through.{is_through}
use Rattle.keri_roles.specs.CoreRoles.CoreTold.{HasBoth, IsGiven, IsToldBy, core_of, fails_last, last_close}
use Rattle.run_status.specs.RunRecord.NoJournal.{no_journal}
use Rattle.run_status.specs.RunOutside.Makings.{AreMakings}
use Rattle.run_status.specs.RunRecord.Run.{SignerShown, is_out}
use Rattle.keri_roles.specs.CoreRoles.Work.{Work}
use Rattle.keri_roles.specs.declared.keri_roles.make.MakeWords.{MakeWords}

-- how the reader of a text closes
abbrev pub close_of : TextClose → Close
close_of text.End = End
close_of text.ReadFault = ReadFault
close_of text.LimitReached = LimitReached
close_of text.OutOfMemory = OutOfMemory

-- the source, which had failed not yet and held this, gave the text, and reading closed by its cause
pub record GaveText (most : ℕ) (held : Option (List ℕ)) (source : SourceShown) (bytes : List ℕ) (close : Close) : Type 0 where
  pub closed : TextClose
  pub reads : ReadsText most held source.left 0 source.faults bytes closed
  pub closes : close ≡ close_of closed

-- the source was read; or it couldn't be made
abbrev pub WasRead : ℕ → Option (List ℕ) → Option SourceShown → List ℕ → Close → Type 0
WasRead most held None bytes close = (close ≡ ReadFault) × (bytes ≡ [])
WasRead most held (Some source) bytes close = GaveText most held source bytes close

-- a reader of a text, with no verifier
pub record ReadsWhole (most : ℕ) (held : Option (List ℕ)) (reader : Reader) (bytes : List ℕ) : Type 0 where
  pub read : WasRead most held reader.source bytes reader.close
  pub no_verifier : reader.verifier ≡ None
  pub none_refused : reader.refused ≡ []
  pub none_seen : reader.seen ≡ []

-- a reader of what a source holds, where it was made
abbrev pub ReadsHeld : {S : Type 0} → (S → Option (List ℕ)) → ℕ → Option S → Reader → List ℕ → Type 0
ReadsHeld left most source reader bytes = (held : Option (List ℕ)) → IfSome source (λ s. left s ≡ held) → ReadsWhole most held reader bytes

-- one of nothing
abbrev pub ReadsNothing : Reader → List ℕ → Type 0
ReadsNothing reader bytes = (most : ℕ) (held : Option (List ℕ)) → ReadsWhole most held reader bytes

-- what an answer writes: the message, or the line of why there is none; and nothing where the signer failed
abbrev pub written : PlanAnswer → List ℕ
written (Message bytes) = bytes
written (Refused why) = plan_text why
written SignerFault = []

-- what an answer is found to be
abbrev pub found_in : PlanAnswer → Besides
found_in (Message bytes) = nothing_besides
found_in (Refused why) = record nothing_besides { plan_refused = true }
found_in SignerFault = record nothing_besides { signer_failed = true }

-- what a message is made from: the signatures that the signer gives, the log that was told, where there is one, and the
-- plan's text
pub record MadeFrom : Type 0 where
  pub gives : Key → List ℕ → Option Sig
  pub log : Option LogTold
  pub text : List ℕ

-- the answer is owed, of a signer that hadn't been asked or failed yet
pub record OwesAnswer (given : MadeFrom) (signer : SignerShown) (owed : Option (List ℕ)) (besides : Besides) : Type 0 where
  pub answer : PlanAnswer
  pub before : Option (List Signing)
  pub none_before : HasNone before
  pub is : IsAnswer (signer_asked given.gives before signer.signings) given.log given.text answer
  pub counts : CountsFaults 0 signer.faults answer
  pub owes : owed ≡ Some (written answer)
  pub found : besides ≡ found_in answer

-- There was no memory for the answer, or for its text. No more was signed than the message would have.
pub record OwesNone (given : MadeFrom) (signer : SignerShown) (owed : Option (List ℕ)) (besides : Besides) : Type 0 where
  pub before : Option (List Signing)
  pub none_before : HasNone before
  pub few : SignsNoMore (signer_asked given.gives before signer.signings) given.log given.text
  pub owes : owed ≡ None
  pub found : besides ≡ nothing_besides

-- this is owed, it is found whether the signer couldn't be made, and one that could wasn't asked and hasn't failed
abbrev pub IsUnanswered : Option (List ℕ) → Option SignerShown → Option (List ℕ) → Besides → Type 0
IsUnanswered text signer owed besides = (owed ≡ text) × (besides ≡ record nothing_besides { signer_failed = is_none signer })
    × IfSome signer (λ s. HasNone s.signings × (s.faults ≡ 0))

-- There is an answer where each reader came to the end and there is a signer. Else nothing is written.
abbrev pub IsDueBy : MadeFrom → (out through : Bool) → Option SignerShown → Option (List ℕ) → Besides → Type 0
IsDueBy given true through signer owed besides = IsUnanswered None signer owed besides
IsDueBy given false false signer owed besides = IsUnanswered (Some []) signer owed besides
IsDueBy given false true None owed besides = IsUnanswered (Some []) None owed besides
IsDueBy given false true (Some signer) owed besides = OwesAnswer given signer owed besides ⊎ OwesNone given signer owed besides

-- what is owed where the readers closed so
abbrev pub IsDue : MadeFrom → List Close → Option SignerShown → Option (List ℕ) → Besides → Type 0
IsDue given closes signer owed besides = IsDueBy given (list_any is_out closes) (list_all is_through closes) signer owed besides

-- what a message is made from without a log
abbrev pub given_alone : List ℕ → List ℕ → Work → MadeFrom
given_alone helper text work = record { gives = work.before.gives helper; log = None; text = text }

-- and behind a log: what its core was told, and whether the stream or a message of it is refused
abbrev pub given_behind : List ℕ → List ℕ → Reader → List Body → Work → MadeFrom
given_behind helper text reader held work = record {
  gives = work.before.gives helper;
  log = Some (record { core = core_of Local work.before.limits held work.journal.entries; is_refused = refuses reader.close reader.refused });
  text = text;
}

-- the makings without a log: the plan's source and the signer
abbrev pub MakesAlone : {S G : Type 0} → List ℕ → List ℕ → Option S → Option G → OutsideShown → OutsideShown → Type 0
MakesAlone plan helper source signer before after =
    AreMakings (making SourceKind plan (is_none source) ∷ making SignerKind helper (is_none signer) ∷ []) before after

-- and behind one: the plan's source, the log's source, the verifier and the signer
abbrev pub makings_behind : {S T V G : Type 0} → List ℕ → List ℕ → List ℕ → Option S → Option T → Option V → Option G → List Making
makings_behind plan log helper source log_source verifier signer = making SourceKind plan (is_none source)
    ∷ making SourceKind log (is_none log_source) ∷ making VerifierKind helper (is_none verifier) ∷ making SignerKind helper (is_none signer) ∷ []

abbrev pub MakesBehind : {S V G : Type 0} → List ℕ → List ℕ → List ℕ → Option S → Providers S V → Option G → OutsideShown → OutsideShown → Type 0
MakesBehind plan log helper source provided signer before after =
    AreMakings (makings_behind plan log helper source provided.source provided.verifier signer) before after

-- without a log: the makings are the plan's source and the signer, and nothing is told
pub record IsMadeAlone (helper plan : List ℕ) (work : Work) : Type 0 where
  pub reader : Reader
  pub one : work.readers ≡ reader ∷ []
  pub text : List ℕ
  pub reads : ReadsWhole work.before.limits.stream_bytes (work.before.holds plan) reader text
  pub makes : MakesAlone plan helper reader.source work.signer work.before work.after
  pub signs : IfSome work.signer (λ s. s.gives ≡ work.before.gives helper)
  pub none_told : work.journal ≡ no_journal
  pub owes : IsDue (given_alone helper text work) (reader.close ∷ []) work.signer work.owed work.besides

-- Behind a log: the makings are the plan's source, the log's source, the verifier and the signer, and the journal was told by
-- the log's reader, of the number 0, which has its source and its verifier where no making failed. Where its verifier failed in the last
-- round, no message is due either.
pub record IsMadeBehind (helper plan log : List ℕ) (work : Work) : Type 0 where
  pub plan_reader : Reader
  pub log_reader : Reader
  pub two : work.readers ≡ plan_reader ∷ log_reader ∷ []
  pub there : (Rose work.before.faults work.after.faults → ⊥) → HasBoth log_reader
  pub text : List ℕ
  pub reads : ReadsWhole work.before.limits.stream_bytes (work.before.holds plan) plan_reader text
  pub given : Given
  pub is_given : IsGiven work.before helper log given
  pub makes : AreMakings (makings_behind plan log helper plan_reader.source given.source given.verifier work.signer) work.before work.after
  pub signs : IfSome work.signer (λ s. s.gives ≡ work.before.gives helper)
  pub rest : LastRound
  pub journal : IsToldBy Local work.before.limits (given ∷ []) (log_reader ∷ []) rest work.journal
  pub due : Besides
  pub owes : IsDue (given_behind helper text log_reader journal.fed.held work) (plan_reader.close ∷ log_reader.close ∷ last_close rest ∷ []) work.signer work.owed due
  pub besides : work.besides ≡ record due { verifier_failed = fails_last rest }

-- `make --helper HELPER --plan PLAN`, and with `--log LOG`
abbrev pub IsMade : List ℕ → List ℕ → Option (List ℕ) → Work → Type 0
IsMade helper plan None work = IsMadeAlone helper plan work
IsMade helper plan (Some log) work = IsMadeBehind helper plan log work

-- by its words
abbrev pub IsMadeBy : MakeWords → Work → Type 0
IsMadeBy words work = IsMade words.helper.now words.plan.now (option_map (λ log. log.now) words.log) work
