-- What a signer was asked, where no message was made.
use Rattle.std.proofs.Common.{◌≡◌, ◌∙◌, ◌⊎◌, inl, inr, ℕ, List, length, Option, Result, Err, refl, sym, ap, subst, arith}
use Rattle.std.specs.Prelude.{IsErrAnd}
use Rattle.std.proofs.lemmas.List.{take_all}
use Rattle.std.proofs.lemmas.Result.{err_from_is_err_and}
use Rattle.lists.specs.KeriSpecs.Shown.{after}
use Rattle.lists.proofs.KeriSpecsLemmas.Putting.{after-nil}
use Rattle.cesr_codes.specs.declared.key.Key.{Key}
use Rattle.cesr_codes.specs.declared.sig.Sig.{Sig}
use Rattle.cesr_stream.specs.declared.message.Message.{Message}
use Rattle.event_body.specs.declared.event_body.event.Event.{Event}
use Rattle.keri_outside.specs.declared.signing.Signing.{Signing}
use Rattle.key_state.specs.States.{State}
use Rattle.controller_core.specs.declared.controller_core.plan_fault.PlanFault.{PlanFault}
use Rattle.controller_core.specs.declared.controller_core.plan_fault.PlanFault.TheVariants.{Body, Misfit, Unsigned, SignerFault, OutOfMemory}
use Rattle.controller_core.specs.declared.controller_core.slot.Slot.{Slot}
use Rattle.controller_core.specs.ControllerCore.Answers.{IsAnswerBehind}
use Rattle.controller_core.specs.ControllerCore.Signings.{AsksFor, AsksFront, signings_in}

-- the same keys, text and slots want the same signatures
pub same_signings : (keys keys' : List Key) (text text' : List ℕ) (slots slots' : List Slot) → keys ≡ keys' → text ≡ text' → slots ≡ slots'
    → signings_in keys text slots ≡ signings_in keys' text' slots'
same_signings keys keys' text text' slots slots' k t s =
    ap (λ keys. signings_in keys text slots) k ∙ (ap (λ text. signings_in keys' text slots) t ∙ ap (λ slots. signings_in keys' text' slots) s)

module _ (T : Type 0) (old : Option (List Signing)) (wanted : List Signing) where
  -- nothing was asked before a refusal
  pub asks_nothing : (fault : PlanFault) → AsksFor {T = T} old old wanted (Err fault)
  asks_nothing (Body fault) = refl
  asks_nothing (Misfit fault) = refl
  asks_nothing Unsigned = refl
  asks_nothing SignerFault = (0, after-nil old)
  asks_nothing OutOfMemory = (0, after-nil old)

  -- a front of them was, where the signatures stopped
  pub asks_front : (new : Option (List Signing)) (fault : PlanFault) → (fault ≡ SignerFault) ⊎ (fault ≡ OutOfMemory) → AsksFront old new wanted → AsksFor {T = T} old new wanted (Err fault)
  asks_front new fault (inl is) front = subst (λ f. AsksFor {T = T} old new wanted (Err f)) (sym is) front
  asks_front new fault (inr is) front = subst (λ f. AsksFor {T = T} old new wanted (Err f)) (sym is) front

  -- all were, and then there was no memory
  pub asks_all : (new : Option (List Signing)) → new ≡ after old wanted → AsksFor {T = T} old new wanted (Err OutOfMemory)
  asks_all new is = (length wanted, is ∙ ap (after old) (sym (take_all (length wanted) wanted (omega arith))))

  -- the same of the fault that a `?` hands on
  pub asks_handed_on : (new : Option (List Signing)) (result : Result T PlanFault) (fault : PlanFault) → IsErrAnd result (λ f. f ≡ fault) → AsksFor {T = T} old new wanted (Err fault)
      → AsksFor {T = T} old new wanted result
  asks_handed_on new result fault is asks =
      let same = err_from_is_err_and result is in
      subst (λ r. AsksFor {T = T} old new wanted r) (sym same.1) (subst (λ f. AsksFor {T = T} old new wanted (Err f)) (sym same.2) asks)

  -- there was no memory before the signer was asked
  pub asks_without_memory : (result : Result T PlanFault) → IsErrAnd result (λ f. f ≡ OutOfMemory) → AsksFor {T = T} old old wanted result
  asks_without_memory result is = asks_handed_on old result OutOfMemory is (asks_nothing OutOfMemory)

-- where there was no memory before the signer was asked, that is the answer to a plan
pub unanswered : (gives : Key → List ℕ → Option Sig) (old : Option (List Signing)) (s : State) (e : Event) (slots : List Slot) (answer : Result Message PlanFault) → IsErrAnd answer (λ f. f ≡ OutOfMemory)
    → IsAnswerBehind gives old old s e slots answer
unanswered gives old s e slots answer is =
    let same = err_from_is_err_and answer is in
    subst (λ r. IsAnswerBehind gives old old s e slots r) (sym (same.1 ∙ ap Err same.2))
    (record { made = tt; refused = λ room. tt; last = λ greatest. tt; asked = (0, after-nil old); signed = tt })
