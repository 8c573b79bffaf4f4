use Rattle.std.proofs.Common.{◌≡◌, ◌∙◌, sym, ap, subst, true, length}
use Rattle.std.specs.List.{AllZip, list_all}
use Rattle.std.specs.Option.{option_copied}
use Rattle.lists.specs.KeriSpecs.Shown.{after}
use Rattle.cesr_stream.specs.declared.message.Message.{Message}
use Rattle.key_state.specs.Exposure.{own_rules}
use Rattle.controller_core.specs.declared.controller_core.plan_fault.PlanFault.TheVariants.{OutOfMemory}
use Rattle.controller_core.specs.ControllerCore.Messages.{IsInSlot, event_text}
use Rattle.controller_core.specs.ControllerCore.Plans.{sealed}
use Rattle.controller_core.specs.ControllerCore.Signings.{AsksFront, signings_of}
use Rattle.controller_core.specs.ControllerCore.Slots.{is_in_range}
use Rattle.controller_core.proofs.ControllerCoreLemmas.Asking.{asks_all, asks_front, asks_handed_on, asks_nothing, same_signings}
use Rattle.controller_core.proofs.ControllerCoreLemmas.Enough.{in_range}
use Rattle.controller_core.proofs.ControllerCoreLemmas.Keys.{has_sigs, same_keys}
use Rattle.controller_core.proofs.controller_core.made.made.Goals as goal

pub signatures-requires-clause-slots : goal.signatures-requires-clause-slots
signatures-requires-clause-slots g c =
    let s = option_copied c.args.state in
    let code = c.args.plan.now.code in
    let event = c.args.event.now in
    let slots = c.args.plan.now.signers in
    let keys = c.signing_keys-keys.ensures ∙ same_keys s code event in
    let all = in_range s (sealed code event) slots c.in_ok-text.ensures.signable.enough in
    let held : list_all (is_in_range (length c.signing_keys-keys.result.now)) slots ≡ true = subst (λ keys. list_all (is_in_range (length keys)) slots ≡ true) (sym keys) all in
    subst (λ slots. list_all (is_in_range (length c.signing_keys-keys.result.now)) slots ≡ true) (sym c.as_slice.ensures) held

pub returns-clause-made : goal.returns-clause-made
returns-clause-made g c =
    let s = option_copied c.args.state in
    let code = c.args.plan.now.code in
    let event = sealed code c.args.event.now in
    let slots = c.args.plan.now.signers in
    let gives = g.S.Signer.gives c.args.signer.now in
    let sigs = c.in_ok-sigs.sigs in
    let keys = c.signing_keys-keys.ensures ∙ same_keys s code c.args.event.now in
    let text = c.in_ok-text.ensures.text in
    let by_keys = subst (λ keys. AllZip (IsInSlot gives keys c.deref.result.now) c.as_slice.result.now sigs) keys c.in_ok-sigs.ensures.sigs in
    let on_text = subst (λ text. AllZip (IsInSlot gives (own_rules s event).keys text) c.as_slice.result.now sigs) (c.deref.ensures.value ∙ text) by_keys in
    let zipped = subst (λ slots. AllZip (IsInSlot gives (own_rules s event).keys (event_text event)) slots sigs) c.as_slice.ensures on_text in
    record {
      signable = c.in_ok-text.ensures.signable;
      has = has_sigs gives (own_rules s event).keys (event_text event) c.in_ok-text.text.items slots sigs c.in_ok-message.message zipped c.in_ok-message.ensures text;
    }

pub returns-in_err-text-clause-asked : goal.returns-in_err-text-clause-asked
returns-in_err-text-clause-asked g c =
    let s = option_copied c.args.state in
    let event = sealed c.args.plan.now.code c.args.event.now in
    let old = g.S.Signer.signings c.args.signer.now in
    let wanted = signings_of s event c.args.plan.now.signers in
    asks_handed_on Message old wanted old c.from_residual.result _ c.from_residual.ensures.1 (asks_nothing Message old wanted _)

pub returns-in_err-sigs-clause-asked : goal.returns-in_err-sigs-clause-asked
returns-in_err-sigs-clause-asked g c =
    let s = option_copied c.args.state in
    let event = sealed c.args.plan.now.code c.args.event.now in
    let old = g.S.Signer.signings c.args.signer.now in
    let new = g.S.Signer.signings c.signatures.new.signer in
    let wanted = signings_of s event c.args.plan.now.signers in
    let keys = c.signing_keys-keys.ensures ∙ same_keys s c.args.plan.now.code c.args.event.now in
    let same = same_signings _ _ _ _ _ _ keys (c.deref.ensures.value ∙ c.in_ok-text.ensures.text) c.as_slice.ensures in
    let front = subst (AsksFront old new) same c.in_err-sigs.ensures.asked in
    asks_handed_on Message old wanted new c.from_residual-in_err-sigs.result _ c.from_residual-in_err-sigs.ensures.1 (asks_front Message old wanted new _ c.in_err-sigs.ensures.only front)

pub returns-in_err-message-clause-asked : goal.returns-in_err-message-clause-asked
returns-in_err-message-clause-asked g c =
    let s = option_copied c.args.state in
    let event = sealed c.args.plan.now.code c.args.event.now in
    let old = g.S.Signer.signings c.args.signer.now in
    let new = g.S.Signer.signings c.signatures.new.signer in
    let wanted = signings_of s event c.args.plan.now.signers in
    let keys = c.signing_keys-keys.ensures ∙ same_keys s c.args.plan.now.code c.args.event.now in
    let same = same_signings _ _ _ _ _ _ keys (c.deref.ensures.value ∙ c.in_ok-text.ensures.text) c.as_slice.ensures in
    let all = c.in_ok-sigs.ensures.asked ∙ ap (after old) same in
    asks_handed_on Message old wanted new c.from_residual-in_err-message.result OutOfMemory c.from_residual-in_err-message.ensures.1 (asks_all Message old wanted new all)

pub returns-clause-asked : goal.returns-clause-asked
returns-clause-asked g c =
    let s = option_copied c.args.state in
    let keys = c.signing_keys-keys.ensures ∙ same_keys s c.args.plan.now.code c.args.event.now in
    let same = same_signings _ _ _ _ _ _ keys (c.deref.ensures.value ∙ c.in_ok-text.ensures.text) c.as_slice.ensures in
    c.in_ok-sigs.ensures.asked ∙ ap (after (g.S.Signer.signings c.args.signer.now)) same
