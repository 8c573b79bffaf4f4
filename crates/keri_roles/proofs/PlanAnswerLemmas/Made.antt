-- What is answered to a message that was made, or to why there is none.
use Rattle.std.proofs.Common.{◌≡◌, ◌≢◌, ℕ, ◌≤◌, inl, inr, true, ◌&&◌, List, [], length, Option, Some, Result, Ok, Err, refl, sym, ap, ◌∙◌, arith, subst}
use Rattle.std.specs.Prelude.{All, IfOk, IfErr, OnErr, nat_le}
use Rattle.std.specs.List.{list_all}
use Rattle.std.proofs.lemmas.Bool.{and_parts, leb-true}
use Rattle.std.proofs.lemmas.List.Elements.{All-nil, All-push}
use Rattle.std.proofs.lemmas.Slice.Zip.{AllZip-long}
use Rattle.std.proofs.lemmas.List.{take_all}
use Rattle.lists.specs.KeriSpecs.Shown.{after}
use Rattle.lists.proofs.KeriSpecsLemmas.Putting.{after-nil}
use Rattle.keri_outside.specs.declared.signing.Signing.{Signing}
use Rattle.cesr_codes.specs.declared.key.Key.{Key}
use Rattle.cesr_codes.specs.declared.sig.Sig.{Sig}
use Rattle.cesr_stream.specs.declared.group.Group.TheVariants.{Controller}
use Rattle.cesr_stream.specs.declared.message.Message.{Message}
use Rattle.cesr_stream.specs.Written.{IsCounted}
use Rattle.event_body.specs.declared.event_body.event.Event.{Event}
use Rattle.journal.specs.EventRules.Parts.{has_signed}
use Rattle.key_state.specs.Exposure.{own_rules}
use Rattle.key_state.specs.States.{State}
use Rattle.report_lines.specs.declared.plan_refusal.PlanRefusal.TheVariants as why
use Rattle.controller_core.specs.declared.controller_core.plan_fault.PlanFault.{PlanFault}
use Rattle.controller_core.specs.declared.controller_core.plan_fault.PlanFault.TheVariants as fault
use Rattle.controller_core.specs.declared.controller_core.slot.Slot.{Slot}
use Rattle.controller_core.specs.ControllerCore.LastNumbers.{IsLastAnswer}
use Rattle.controller_core.specs.ControllerCore.Messages.{IsInSlot, IsMessageOf, event_text}
use Rattle.controller_core.specs.ControllerCore.Refusals as made
use Rattle.controller_core.specs.ControllerCore.Refusals.{IsRefusal}
use Rattle.controller_core.specs.ControllerCore.Signing.{IsSignedByYes}
use Rattle.controller_core.specs.ControllerCore.Signings.{AsksFor, AsksFront, signings_of}
use Rattle.controller_core.specs.ControllerCore.Slots.{are_enough, is_in_range, slots_have}
use Rattle.controller_core.specs.declared.plan_text.event_plan.EventPlan.{EventPlan}
use Rattle.controller_core.specs.PlanText.Plans.{IsPlanText}
use Rattle.keri_roles.specs.declared.plan_answer.answer.PlanAnswer.{PlanAnswer}
use Rattle.keri_roles.specs.declared.plan_answer.answer.PlanAnswer.TheVariants.{Message as MessageAnswer, Refused, SignerFault}
use Rattle.keri_roles.specs.PlanAnswer.Answers.{AsksFew, CountsFaults, IsEventAnswer, IsUnasked, SignerAsked, SignsNoMore, answer_to, message_text}
use Rattle.keri_roles.specs.PlanAnswer.Asked.{Asked, HasNumber, IsPastLast, LogTold, asked}

module _ (gives : Key → List ℕ → Option Sig) (s : Option State) (e : Event) (slots : List Slot) where
  few_slots : are_enough s e slots ≡ true → length slots ≤ 4095
  unfolding are_enough
  few_slots enough =
      let both = and_parts (nat_le (length slots) 4095 && list_all (is_in_range (length (own_rules s e).keys)) slots) (has_signed (slots_have s e slots) s e) enough in
      leb-true (length slots) 4095 (and_parts (nat_le (length slots) 4095) (list_all (is_in_range (length (own_rules s e).keys)) slots) both.0).0

  -- two digits count the one group of a message
  pub counted : (message : Message) → IsMessageOf gives s e slots message → All IsCounted message.groups
  counted message m =
      let long = AllZip-long (IsInSlot gives (own_rules s e).keys (event_text e)) slots m.has.sigs m.has.in_slots in
      let few = few_slots m.signable.enough in
      subst (λ groups. All IsCounted groups) (sym m.has.group) (All-push IsCounted [] (Controller m.has.sigs) (All-nil IsCounted) (subst (λ n. n ≤ 4095) (sym long) few))

  pub all_counted : (answer : Result Message PlanFault) → IfOk answer (IsMessageOf gives s e slots) → IfOk answer (λ message. All IsCounted message.groups)
  all_counted (Ok message) m = counted message m
  all_counted (Err other) m = tt

-- the answer is the event's
module _ (signer : SignerAsked) (is : Asked) (slots : List Slot) where
  pub answers : (answer : Result Message PlanFault) (text : PlanAnswer) → IfOk answer (IsMessageOf signer.gives is.state is.event slots) → IfOk answer (IsSignedByYes is.state is.event)
      → AsksFor signer.before signer.now (signings_of is.state is.event slots) answer
      → (HasNumber is.state → IfErr answer (IsRefusal is.state is.event slots)) → (IsPastLast is.state → IsLastAnswer (event_text is.event) answer)
      → answer_to answer ≡ Some text → IsEventAnswer signer is slots text
  answers (Ok message) text m signed asked refused last e =
      let same : MessageAnswer (message_text message) ≡ text = cc e in
      rw (sym same) (record { message = message; made = m; asked = asked; signed = signed; numbered = λ past. last past; spelled = refl })
  answers (Err (fault.Body body)) text m signed asked refused last e =
      let same : Refused (why.Body body) ≡ text = cc e in rw (sym same) (record { refused = refused; last = last; asked = asked })
  answers (Err (fault.Misfit misfit)) text m signed asked refused last e =
      let same : Refused (why.Misfit misfit) ≡ text = cc e in rw (sym same) (record { refused = refused; last = last; asked = asked })
  answers (Err fault.Unsigned) text m signed asked refused last e =
      let same : Refused why.Unsigned ≡ text = cc e in rw (sym same) (record { refused = refused; last = last; asked = asked })
  answers (Err fault.SignerFault) text m signed asked refused last e =
      let same : SignerFault ≡ text = cc e in rw (sym same) (record { refused = refused; last = last; asked = asked })
  answers (Err fault.OutOfMemory) text m signed asked refused last e = cc

  pub all_answers : {E : Type 0} (answer : Result Message PlanFault) (texts : Result PlanAnswer E) → IfOk answer (IsMessageOf signer.gives is.state is.event slots) → IfOk answer (IsSignedByYes is.state is.event)
      → AsksFor signer.before signer.now (signings_of is.state is.event slots) answer
      → (HasNumber is.state → IfErr answer (IsRefusal is.state is.event slots)) → (IsPastLast is.state → IsLastAnswer (event_text is.event) answer)
      → IfOk texts (λ text. answer_to answer ≡ Some text) → IfOk texts (IsEventAnswer signer is slots)
  all_answers answer (Ok text) m signed asked refused last e = answers answer text m signed asked refused last e
  all_answers answer (Err other) m signed asked refused last e = tt

-- no more was asked for than the message would have
module _ (old new : Option (List Signing)) (wanted : List Signing) where
  pub few : (answer : Result Message PlanFault) → AsksFor old new wanted answer → AsksFront old new wanted
  few (Ok message) asked = (length wanted, asked ∙ ap (after old) (sym (take_all (length wanted) wanted (omega arith))))
  few (Err (fault.Body body)) asked = (0, asked ∙ after-nil old)
  few (Err (fault.Misfit misfit)) asked = (0, asked ∙ after-nil old)
  few (Err fault.Unsigned) asked = (0, asked ∙ after-nil old)
  few (Err fault.SignerFault) asked = asked
  few (Err fault.OutOfMemory) asked = asked

-- the same by the plan's text
module _ (signer : SignerAsked) (log : Option LogTold) (text : List ℕ) where
  pub no_more : (plan : EventPlan) → IsPlanText text plan → AsksFew signer (asked log plan) plan.plan.signers → SignsNoMore signer log text
  no_more plan spelled few = inr (record { plan = plan; spelled = spelled; few = few })

  pub nothing_signed : IsUnasked signer → SignsNoMore signer log text
  nothing_signed unasked = inl unasked

-- and counts as it does
module _ (before now : ℕ) where
  count : (answer : Result Message PlanFault) (text : PlanAnswer) → made.CountsSignerFaults before now answer → answer_to answer ≡ Some text → CountsFaults before now text
  count (Ok message) text c e = let same : MessageAnswer (message_text message) ≡ text = cc e in rw (sym same) c
  count (Err (fault.Body body)) text c e = let same : Refused (why.Body body) ≡ text = cc e in rw (sym same) c
  count (Err (fault.Misfit misfit)) text c e = let same : Refused (why.Misfit misfit) ≡ text = cc e in rw (sym same) c
  count (Err fault.Unsigned) text c e = let same : Refused why.Unsigned ≡ text = cc e in rw (sym same) c
  count (Err fault.SignerFault) text c e = let same : SignerFault ≡ text = cc e in rw (sym same) c
  count (Err fault.OutOfMemory) text c e = cc

  pub counts : {E : Type 0} (answer : Result Message PlanFault) (texts : Result PlanAnswer E) → made.CountsSignerFaults before now answer
      → IfOk texts (λ text. answer_to answer ≡ Some text) → IfOk texts (CountsFaults before now)
  counts answer (Ok text) c e = count answer text c e
  counts answer (Err other) c e = tt

  pub kept : (answer : Result Message PlanFault) → made.CountsSignerFaults before now answer → answer ≢ Err fault.SignerFault → now ≡ before
  kept (Ok message) c other = c
  kept (Err (fault.Body body)) c other = c
  kept (Err (fault.Misfit misfit)) c other = c
  kept (Err fault.Unsigned) c other = c
  kept (Err fault.SignerFault) c other = absurd (other refl)
  kept (Err fault.OutOfMemory) c other = c

  pub all_kept : {A E : Type 0} (answer : Result Message PlanFault) (texts : Result A E) → made.CountsSignerFaults before now answer → OnErr texts (answer ≢ Err fault.SignerFault) → OnErr texts (now ≡ before)
  all_kept answer (Ok text) c other = tt
  all_kept answer (Err out) c other = kept answer c other
