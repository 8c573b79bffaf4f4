-- What is due to a plan, by its signer before and after that.
use Rattle.std.specs.Prelude.{◌≡◌, ◌⊎◌, ℕ, List, IfSome, option_map}
use Rattle.std.specs.declared.option.Option.{Option}
use Rattle.std.specs.declared.option.Option.TheVariants.{Some}
use Rattle.cesr_codes.specs.declared.key.Key.{Key}
use Rattle.cesr_codes.specs.declared.sig.Sig.{Sig}
use Rattle.keri_roles.specs.declared.plan_answer.answer.PlanAnswer.{PlanAnswer}
use Rattle.keri_roles.specs.declared.plan_answer.read_log.ReadLog.{ReadLog}
use Rattle.keri_roles.specs.PlanAnswer.Asked.{log_told}
use Rattle.run_status.specs.declared.run_status.close.Close.{Close}
use Rattle.keri_roles.specs.KeriRoles.Made.{MadeFrom, IsDue, OwesAnswer, OwesNone, found_in, written}
use Rattle.run_status.specs.RunRecord.Run.{SignerShown}
use Rattle.keri_roles.specs.declared.keri_roles.message_due.MessageDue.{MessageDue}

-- what a message is made from, by the log that was read
abbrev pub made_from : (Key → List ℕ → Option Sig) → Option ReadLog → List ℕ → MadeFrom
made_from gives log plan = record { gives = gives; log = option_map log_told log; text = plan }

-- the text that is owed
abbrev pub owed_by : MessageDue → Option (List ℕ)
owed_by due = option_map (λ text. text.items) due.owed

-- the signer, which showed the first before, was asked: there is an answer, or there was no memory
abbrev pub IsAnswered : SignerShown → SignerShown → Option ReadLog → List ℕ → MessageDue → Type 0
IsAnswered before now log plan due =
    OwesAnswer (made_from before.gives log plan) now (owed_by due) due.besides ⊎ OwesNone (made_from before.gives log plan) now (owed_by due) due.besides

-- what is due where the readers closed so, by what the signer gives, where there is one
abbrev pub IsDueTo : {G : Type 0} → (G → Key → List ℕ → Option Sig) → Option G → Option SignerShown → Option ReadLog → List ℕ → List Close → MessageDue → Type 0
IsDueTo gives signer now log plan closes due = (given : Key → List ℕ → Option Sig) → IfSome signer (λ s. gives s ≡ given)
    → IsDue (made_from given log plan) closes now (owed_by due) due.besides

-- the signer, where there is one, gives what it gave before
abbrev pub GivesTheSame : {G : Type 0} → (G → Key → List ℕ → Option Sig) → Option G → Option G → Type 0
GivesTheSame gives old new = (given : Key → List ℕ → Option Sig) → IfSome old (λ s. gives s ≡ given) → IfSome new (λ s. gives s ≡ given)

-- the answer is owed, and what it is was found
abbrev pub HasAnswer : MessageDue → PlanAnswer → Type 0
HasAnswer due answer = (owed_by due ≡ Some (written answer)) × (due.besides ≡ found_in answer)
