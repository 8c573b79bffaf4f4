use Rattle.std.proofs.Common.{◌≡◌, cond, Some, None, sym, ◌∙◌, ap, subst}
use Rattle.std.specs.Prelude.{All, option_map, slice_get}
use Rattle.std.specs.BTreeMap.{get, is_at}
use Rattle.std.specs.List.{list_any}
use Rattle.cesr_codes.specs.declared.prefix.Prefix.{Prefix}
use Rattle.validator_core.specs.Acceptance.Standing.{IsHeld}
use Rattle.event_body.specs.EventBody.Events.{prefix_of}
use Rattle.journal.proofs.JournalLemmas.Places.{all_at}
use Rattle.key_state.specs.Same.{same_prefix}
use Rattle.key_state.specs.Kept.{IsKept}
use Rattle.validator_core.specs.ValidatorCore.View.{accepted_by, told_of}
use Rattle.export_core.specs.ExportCore.Messages.{IsFixed}
use Rattle.export_core.specs.ExportCore.Signers.{own_signers, signers_in}
use Rattle.export_core.specs.ExportCore.Exported.{prefix_cmp}
use Rattle.export_core.proofs.ExportCoreLemmas.Cores.{core_grown}
use Rattle.export_core.proofs.ExportCoreLemmas.Fixed.{sent_fixed}
use Rattle.export_core.proofs.ExportCoreLemmas.Placed.{body_at, number_there}
use Rattle.export_core.proofs.ExportCoreLemmas.Putting.{own_witnesses, passed_over, put_there}
use Rattle.export_core.proofs.export_core.exported_events.put_event.Goals as goal

pub returns-in_default : goal.returns-in_default
returns-in_default c = λ b at.
    let core = c.args.core.now in
    let n = number_there core.held c.accepted.result.now c.accepted.ensures.held (accepted_by core) c.accepted.ensures.accepted c.args.place b at in
    let lost : None ≡ Some n.0 = sym c.in_default.is ∙ c.number_at.ensures ∙ n.1 in absurd (cc lost)

pub returns-in_default-body : goal.returns-in_default-body
returns-in_default-body c = λ b at.
    let core = c.args.core.now in
    let n = number_there core.held c.accepted.result.now c.accepted.ensures.held (accepted_by core) c.accepted.ensures.accepted c.args.place b at in
    let same : Some c.in-Some.number ≡ Some n.0 = sym c.in-Some.is ∙ c.number_at.ensures ∙ n.1 in
    let one : c.in-Some.number ≡ n.0 = cc same in
    let lost : None ≡ Some b.bytes = sym (ap (option_map (λ bytes. bytes.now)) c.in_default-body.is) ∙ c.body.ensures.body ∙ ap (λ k. option_map (λ b. b.bytes) (slice_get core.held k)) one ∙ ap (option_map (λ b. b.bytes)) n.2 in absurd (cc lost)

pub returns-then-not-has_prefix : goal.returns-then-not-has_prefix
returns-then-not-has_prefix c = λ b at.
    let core = c.args.core.now in
    let n = number_there core.held c.accepted.result.now c.accepted.ensures.held (accepted_by core) c.accepted.ensures.accepted c.args.place b at in
    let same : Some c.in-Some.number ≡ Some n.0 = sym c.in-Some.is ∙ c.number_at.ensures ∙ n.1 in
    let one : c.in-Some.number ≡ n.0 = cc same in
    let events : Some c.in-Some-event.event.now ≡ Some b.event = sym (ap (option_map (λ e. e.now)) c.in-Some-event.is) ∙ c.event.ensures ∙ ap (λ k. option_map (λ b. b.event) (slice_get core.held k)) one ∙ ap (option_map (λ b. b.event)) n.2 in
    let event : c.in-Some-event.event.now ≡ b.event = cc events in
    passed_over core c.args.family.now.keys c.args.place b at (core_grown core c.requires.full c.requires.no_base) c.args.signers.now c.requires.signers c.args.text.now.bytes.items
    (ap (λ p. list_any (λ q. same_prefix q p) c.args.family.now.keys) (sym (c.prefix-prefix.ensures ∙ ap prefix_of event)) ∙ sym c.has_prefix.ensures ∙ c.if-not-has_prefix.true)

pub put_messages-requires : goal.put_messages-requires
put_messages-requires c =
    let core = c.args.core.now in
    let at = body_at core.held c.accepted.result.now c.accepted.ensures.held (accepted_by core) c.accepted.ensures.accepted c.args.place c.in-Some.number (sym c.number_at.ensures ∙ c.in-Some.is) in
    let b = at.0 in
    let n = number_there core.held c.accepted.result.now c.accepted.ensures.held (accepted_by core) c.accepted.ensures.accepted c.args.place b at.1 in
    let same : Some c.in-Some.number ≡ Some n.0 = sym c.in-Some.is ∙ c.number_at.ensures ∙ n.1 in
    let one : c.in-Some.number ≡ n.0 = cc same in
    let held : slice_get core.held c.in-Some.number ≡ Some b = ap (slice_get core.held) one ∙ n.2 in
    let events : Some c.in-Some-event.event.now ≡ Some b.event = sym (ap (option_map (λ e. e.now)) c.in-Some-event.is) ∙ c.event.ensures ∙ ap (option_map (λ b. b.event)) held in
    let event : c.in-Some-event.event.now ≡ b.event = cc events in
    let prefix : c.prefix-prefix.result ≡ prefix_of b.event = c.prefix-prefix.ensures ∙ ap prefix_of event in
    let of = ap (λ p. list_any (λ q. same_prefix q p) c.args.family.now.keys) (sym prefix) ∙ sym c.has_prefix.ensures ∙ c.if-not-has_prefix.false in
    let own_is = c.in_ok-own.ensures ∙ (λ i. own_signers (signers_in ((c.get.ensures.value ∙ ap (get prefix_cmp c.args.signers.now) prefix) i)) (event i)) in
    let kept : IsKept b.event = c.spelled_is_kept.ensures b.event b.bytes (all_at IsHeld core.held c.requires.sound.spelled c.in-Some.number b held).spelled in
    subst (All IsFixed) (sym (c.as_slice.ensures.value ∙ c.in_ok-claims.ensures b held (sym event)))
    (sent_fixed (told_of core) c.in_ok-own.own b (own_witnesses core c.args.family.now.keys c.args.place b at.1 (core_grown core c.requires.full c.requires.no_base) c.args.signers.now c.requires.signers of c.in_ok-own.own own_is kept))

pub returns : goal.returns
returns c = λ b at.
    let core = c.args.core.now in
    let n = number_there core.held c.accepted.result.now c.accepted.ensures.held (accepted_by core) c.accepted.ensures.accepted c.args.place b at in
    let same : Some c.in-Some.number ≡ Some n.0 = sym c.in-Some.is ∙ c.number_at.ensures ∙ n.1 in
    let one : c.in-Some.number ≡ n.0 = cc same in
    let held : slice_get core.held c.in-Some.number ≡ Some b = ap (slice_get core.held) one ∙ n.2 in
    let events : Some c.in-Some-event.event.now ≡ Some b.event = sym (ap (option_map (λ e. e.now)) c.in-Some-event.is) ∙ c.event.ensures ∙ ap (option_map (λ b. b.event)) held in
    let event : c.in-Some-event.event.now ≡ b.event = cc events in
    let bytes_same : Some c.in-Some-body.bytes.now ≡ Some b.bytes = sym (ap (option_map (λ e. e.now)) c.in-Some-body.is) ∙ c.body.ensures.body ∙ ap (option_map (λ b. b.bytes)) held in
    let bytes : c.in-Some-body.bytes.now ≡ b.bytes = cc bytes_same in
    let prefix : c.prefix-prefix.result ≡ prefix_of b.event = c.prefix-prefix.ensures ∙ ap prefix_of event in
    let of = ap (λ p. list_any (λ q. same_prefix q p) c.args.family.now.keys) (sym prefix) ∙ sym c.has_prefix.ensures ∙ c.if-not-has_prefix.false in
    let own_is = c.in_ok-own.ensures ∙ (λ i. own_signers (signers_in ((c.get.ensures.value ∙ ap (get prefix_cmp c.args.signers.now) prefix) i)) (event i)) in
    let kept : IsKept b.event = c.spelled_is_kept.ensures b.event b.bytes (all_at IsHeld core.held c.requires.sound.spelled c.in-Some.number b held).spelled in
    put_there core c.args.family.now.keys c.args.place b at (core_grown core c.requires.full c.requires.no_base) c.args.signers.now c.requires.signers of c.in_ok-own.own own_is kept
    c.insert.new.self (subst (λ p. (q : Prefix) → get prefix_cmp c.insert.new.self q ≡ cond (is_at (prefix_cmp p) q) (Some c.in_ok-own.own) (get prefix_cmp c.args.signers.now q)) prefix c.in_ok-insert.ensures.updates.0)
    c.args.text.now.bytes.items c.put_messages.new.text.bytes.items c.in-Some-body.bytes.now c.as_slice.result.now bytes
    (c.as_slice.ensures.value ∙ c.in_ok-claims.ensures b held (sym event)) c.in_ok-put_messages.ensures
