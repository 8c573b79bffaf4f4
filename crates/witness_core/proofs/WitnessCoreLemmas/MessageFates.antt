-- The fate of a message, by how it was judged.
use Rattle.std.proofs.Common.{◌≡◌, Bool, true, false, List, [], ◌∷◌, Option, Some, None, Result, Ok, Err, sym, ◌∙◌, ap, subst, if◌then◌else◌}
use Rattle.std.specs.Prelude.{IfSome}
use Rattle.std.specs.Option.{option_map}
use Rattle.cesr_codes.specs.declared.key.Key.{Key}
use Rattle.cesr_stream.specs.declared.message.Message.{Message}
use Rattle.validator_core.specs.Tables.View.{body_of}
use Rattle.event_body.specs.EventBody.Events.{is_receipt, prefix_of, sn_of}
use Rattle.event_body.specs.declared.event_body.body_fault.BodyFault.{BodyFault}
use Rattle.event_body.specs.declared.event_body.event.Event.{Event}
use Rattle.journal.specs.declared.journal.body.Body.{Body}
use Rattle.journal.specs.declared.journal.reply.Reason.{Reason}
use Rattle.journal.specs.declared.journal.why.Why.{Why}
use Rattle.journal.specs.Journal.Logs.{is_in, takes}
use Rattle.journal.specs.Journal.Replies.{refusal}
use Rattle.journal.specs.Journal.Waiting.{why_waits}
use Rattle.validator_core.specs.ValidatorCore.Messages.{JudgesMessage}
use Rattle.validator_core.specs.ValidatorCore.Signatures.{is_witness_under}
use Rattle.validator_core.specs.ValidatorCore.View.{CoreView, accepted_by, state_of, told_of}
use Rattle.witness_core.specs.WitnessReceipts.Fates.{IsFate, event_fate, fate_of, first_some, live_there, signing_reason, waiting_fate, when}
use Rattle.witness_core.specs.WitnessCore.Telling.{IsOfReceipt}
use Rattle.witness_core.specs.declared.witness_receipts.fate.Fate.{Fate}
use Rattle.witness_core.specs.declared.witness_receipts.fate.Fate.TheVariants.{Stored, Waits, Seen, NotAnEvent, Refused}

-- it is the fate of an event that the core was told of
abbrev pub IsOfEvent : Fate → Type 0
IsOfEvent (Stored listed) = Unit {0}
IsOfEvent (Waits reason) = Unit {0}
IsOfEvent (Seen said) = Unit {0}
IsOfEvent NotAnEvent = ⊥
IsOfEvent (Refused reason) = ⊥

first_of : (o : Option Fate) (rest : List (Option Fate)) → IfSome o IsOfEvent → IfSome (first_some rest) IsOfEvent → IfSome (first_some (o ∷ rest)) IsOfEvent
first_of None rest here others = others
first_of (Some fate) rest here others = here

mapped_of : {X : Type 0} (f : X → Fate) → ((x : X) → IsOfEvent (f x)) → (o : Option X) → IfSome (option_map f o) IsOfEvent
mapped_of f each None = tt
mapped_of f each (Some x) = each x

chosen_of : (so : Bool) (o : Option Fate) → IfSome o IsOfEvent → IfSome (if so then o else None) IsOfEvent
chosen_of true o is = is
chosen_of false o is = tt

module _ (key : Key) (core : CoreView) (b : Body) where
  abbrev why : Option Why
  why = why_waits core.mode (told_of core) (accepted_by core) b

  waiting_of : IfSome (waiting_fate core b) IsOfEvent
  waiting_of =
      let waits = option_map Waits why ∷ [] in
      let seen = option_map Seen (live_there (accepted_by core) (prefix_of b.event) (sn_of b.event)) in
      first_of (if takes (state_of core (prefix_of b.event)) b.event then option_map Waits (signing_reason why) else None) (seen ∷ waits)
      (chosen_of (takes (state_of core (prefix_of b.event)) b.event) (option_map Waits (signing_reason why)) (mapped_of Waits (λ w. tt) (signing_reason why)))
      (first_of seen waits (mapped_of Seen (λ d. tt) (live_there (accepted_by core) (prefix_of b.event) (sn_of b.event)))
      (first_of (option_map Waits why) [] (mapped_of Waits (λ w. tt) why) tt))

  pub of_event : is_receipt b.event ≡ false → (fate : Fate) → event_fate key core b ≡ Some fate → IsOfEvent fate
  of_event event fate is =
      let waiting = waiting_fate core b ∷ [] in
      let stored = when (is_in (accepted_by core) b) (Stored (is_witness_under (accepted_by core) b key)) in
      subst (λ (o : Option Fate). IfSome o IsOfEvent) is
      (first_of (when (is_receipt b.event) NotAnEvent) (stored ∷ waiting) (subst (λ r. IfSome (when r NotAnEvent) IsOfEvent) (sym event) tt)
      (first_of stored waiting (chosen_of (is_in (accepted_by core) b) (Some (Stored (is_witness_under (accepted_by core) b key))) tt)
      (first_of (waiting_fate core b) [] waiting_of tt)))

-- FATE: of a message, by how it was judged
module _ (key : Key) (core : CoreView) (m : Message) where
  pub fate_refused : (reason : Reason) → JudgesMessage m (Err reason) → IsFate key core m (Refused reason)
  fate_refused reason judged = (judged.0, judged.1, by judged.0 judged.2)
    where
      by : (gives : Result Event BodyFault) → refusal m gives ≡ Some reason → fate_of key core m gives ≡ Some (Refused reason)
      by (Err fault) is = ap (option_map Refused) is
      by (Ok e) is = ap (λ o. first_some (option_map Refused o ∷ event_fate key core (body_of m.body e) ∷ [])) is

  judged_fate : (e : Event) → refusal m (Ok e) ≡ None → (fate : Fate) → event_fate key core (body_of m.body e) ≡ Some fate → fate_of key core m (Ok e) ≡ Some fate
  judged_fate e none fate is = ap (λ o. first_some (option_map Refused o ∷ event_fate key core (body_of m.body e) ∷ [])) none ∙ ap (λ o. first_some (o ∷ [])) is

  pub fate_judged : (e : Event) → JudgesMessage m (Ok e) → (fate : Fate) → event_fate key core (body_of m.body e) ≡ Some fate → IsFate key core m fate
  fate_judged e judged fate is = (Ok e, judged.0, judged_fate e judged.1 fate is)

  pub fate_receipt : IsOfReceipt m → IsFate key core m NotAnEvent
  fate_receipt of =
      let b = body_of m.body of.0 in
      let rest = when (is_in (accepted_by core) b) (Stored (is_witness_under (accepted_by core) b key)) ∷ waiting_fate core b ∷ [] in
      fate_judged of.0 of.1 NotAnEvent (ap (λ r. first_some (when r NotAnEvent ∷ rest)) of.2)
