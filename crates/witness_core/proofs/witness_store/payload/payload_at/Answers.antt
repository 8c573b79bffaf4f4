use Rattle.std.proofs.Common.{◌≡◌, ◌∙◌, ◌+◌, ◌≤◌, List, ℕ, All, length, slice_get, Some, ap, sym, subst, rules}
use Rattle.std.proofs.lemmas.Result.{IfOk-weaker}
use Rattle.cesr_codes.specs.Indexed.{IsIndexed}
use Rattle.journal_views.specs.EventPayload.Kept.{kept}
use Rattle.journal_views.specs.EventPayload.Payloads.{payload_of, text_in}
use Rattle.journal_views.proofs.EventPayloadLemmas.Written.{read_again}
use Rattle.journal.specs.declared.journal.body.Body.{Body}
use Rattle.journal.proofs.JournalLemmas.Places.{some_at}
use Rattle.shelf_log.specs.ShelfLog.Format.{IsSized}
use Rattle.shelf_log.specs.declared.shelf_log.version.Version.TheVariants.{Two}
use Rattle.validator_core.specs.ValidatorCore.View.{accepted_by, told_of}
use Rattle.witness_core.specs.WitnessStore.Payloads.{payload_now}
use Rattle.witness_core.specs.WitnessStore.Room.{IsKnown, weight}
use Rattle.witness_core.proofs.WitnessStoreLemmas.Known.{known_by, payload_there, place_low, text_low}
use Rattle.witness_core.proofs.WitnessStoreLemmas.Sized.{held, sized, within}
use Rattle.witness_core.proofs.witness_store.payload.payload_at.Goals.{After-payload}
use Rattle.witness_core.proofs.witness_store.payload.payload_at.Goals as goal

pub offset_bounds-accepted-place : goal.offset_bounds-accepted-place
offset_bounds-accepted-place c =
    let low = place_low c.args.core.now c.accepted.result.now c.accepted.ensures.held c.accepted.ensures.accepted c.args.place c.requires in
    search rules

pub bounds-accepted-place : goal.bounds-accepted-place
bounds-accepted-place c = place_low c.args.core.now c.accepted.result.now c.accepted.ensures.held c.accepted.ensures.accepted c.args.place c.requires

pub bounds-as_slice-number : goal.bounds-as_slice-number
bounds-as_slice-number c =
    text_low c.args.core.now c.accepted.result.now c.accepted.ensures.held c.accepted.ensures.accepted c.args.place c.requires 0 c.as_slice.result.now
    (c.as_slice.ensures ∙ c.journal.ensures.bodies)

known : (c : After-payload) → IsKnown c.args.core.now
known c = known_by c.args.core.now c.accepted.result.now c.accepted.ensures.held c.accepted.ensures.accepted c.accepted.ensures.numbers c.journal.ensures.sound

-- the payload is that of the body that is read and the signatures that are kept
written : (c : After-payload) (b : Body) → slice_get (accepted_by c.args.core.now) c.args.place ≡ Some b
    → payload_of c.as_slice-2.result.now c.sigs.result.now ≡ payload_now (told_of c.args.core.now) (accepted_by c.args.core.now) b
written c b at =
    payload_there c.args.core.now c.accepted.result.now c.accepted.ensures.held c.accepted.ensures.accepted c.args.place b at
    c.as_slice.result.now (c.as_slice.ensures ∙ c.journal.ensures.bodies) 0 c.as_slice-2.result.now c.index-as_slice-number.result (c.as_slice-2.ensures ∙ c.index-as_slice-number.is)
    c.sigs.result.now (c.sigs.ensures ∙ c.in_ok-kept.ensures.kept b at)

pub returns-clause-payload : goal.returns-clause-payload
returns-clause-payload c = IfOk-weaker c.payload.result _ _ (λ p is b at. is ∙ written (goal.at.returns-clause-payload c).After-payload b at) c.payload.ensures

pub returns-clause-sized : goal.returns-clause-sized
returns-clause-sized c =
    let all = known (goal.at.returns-clause-sized c).After-payload in
    let (b, at) = some_at (accepted_by c.args.core.now) c.args.place c.requires in
    IfOk-weaker c.payload.result _ _
    (λ p is. subst (IsSized Two) (sym (is ∙ written (goal.at.returns-clause-sized c).After-payload b at)) (sized c.args.core.now all c.spelled_is_kept.ensures c.args.place b at)) c.payload.ensures

pub returns-clause-within : goal.returns-clause-within
returns-clause-within c =
    let all = known (goal.at.returns-clause-within c).After-payload in
    IfOk-weaker c.payload.result _ _
    (λ p is b at. subst (λ (l : List ℕ). 5 + length l ≤ weight (told_of c.args.core.now) b) (sym (is ∙ written (goal.at.returns-clause-within c).After-payload b at))
    (within c.args.core.now all c.spelled_is_kept.ensures c.args.place b at)) c.payload.ensures

pub returns-clause-read : goal.returns-clause-read
returns-clause-read c =
    let all = known (goal.at.returns-clause-read c).After-payload in
    IfOk-weaker c.payload.result _ _
    (λ p is b at.
    let raw = subst (All IsIndexed) (c.in_ok-kept.ensures.kept b at) (c.in_ok-kept.ensures.raw b at) in
    let body = held c.args.core.now all c.spelled_is_kept.ensures c.args.place b at in
    ap text_in (is ∙ written (goal.at.returns-clause-read c).After-payload b at)
    ∙ read_again b.event b.bytes (kept (told_of c.args.core.now) (accepted_by c.args.core.now) b) body.spelled.has body.few raw) c.payload.ensures
