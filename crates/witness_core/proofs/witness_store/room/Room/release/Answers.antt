use Rattle.std.proofs.Common.{◌≡◌, ◌∙◌, Some, slice_get, ap, arith, length, rules}
use Rattle.journal.specs.declared.journal.body.Body.{Body}
use Rattle.journal.proofs.JournalLemmas.Places.{some_at}
use Rattle.validator_core.specs.ValidatorCore.View.{accepted_by, told_of}
use Rattle.witness_core.specs.WitnessStore.Room.{IsKnown, weight}
use Rattle.witness_core.proofs.WitnessStoreLemmas.Known.{body_there, bytes_there, held_there, known_by, number_low, place_low, text_low}
use Rattle.witness_core.proofs.WitnessStoreLemmas.Releasing.{counted_all, is_reserved, room_released, signatures_there, weighs}
use Rattle.witness_core.proofs.witness_store.room.Room.release.Goals.{After-journal, After-weight}
use Rattle.witness_core.proofs.witness_store.room.Room.release.Goals as goal

known : (c : After-journal) → IsKnown c.args.core.now
known c = known_by c.args.core.now c.accepted.result.now c.accepted.ensures.held c.accepted.ensures.accepted c.accepted.ensures.numbers c.journal.ensures.sound

pub offset_bounds-accepted-place : goal.offset_bounds-accepted-place
offset_bounds-accepted-place c =
    let low = place_low c.args.core.now c.accepted.result.now c.accepted.ensures.held c.accepted.ensures.accepted c.args.place c.requires.accepted in
    search rules

pub bounds-accepted-place : goal.bounds-accepted-place
bounds-accepted-place c = place_low c.args.core.now c.accepted.result.now c.accepted.ensures.held c.accepted.ensures.accepted c.args.place c.requires.accepted

pub bounds-as_slice-number : goal.bounds-as_slice-number
bounds-as_slice-number c =
    text_low c.args.core.now c.accepted.result.now c.accepted.ensures.held c.accepted.ensures.accepted c.args.place c.requires.accepted 0 c.as_slice.result.now
    (c.as_slice.ensures ∙ c.journal.ensures.bodies)

pub index-requires : goal.index-requires
index-requires c =
    let low = number_low c.args.core.now c.accepted.result.now c.accepted.ensures.held c.accepted.ensures.accepted c.args.place c.requires.accepted 0 in
    let all = counted_all c.args.core.now (known (goal.at.index-requires c).After-journal) c.args.place c.args.self.now c.requires.room in
    let ok = c.args.self.now.signatures.ok.0 in
    omega (arith, low, all, ok)

pub weight-requires : goal.weight-requires
weight-requires c =
    let (b, at) = some_at (accepted_by c.args.core.now) c.args.place c.requires.accepted in
    let held = held_there c.args.core.now c.accepted.result.now c.accepted.ensures.held c.accepted.ensures.accepted c.args.place b at c.journal.ensures.sound in
    let bytes = bytes_there c.args.core.now c.accepted.result.now c.accepted.ensures.held c.accepted.ensures.accepted c.args.place b at
    c.as_slice.result.now (c.as_slice.ensures ∙ c.journal.ensures.bodies) 0 c.index-as_slice-number.result c.index-as_slice-number.result c.index-as_slice-number.is in
    omega (arith, c.len-bytes.ensures, ap length bytes, held.few)

-- what is taken away is what the event needs
weighed : (c : After-weight) (b : Body) → slice_get (accepted_by c.args.core.now) c.args.place ≡ Some b → IsKnown c.args.core.now → c.weight.result ≡ weight (told_of c.args.core.now) b
weighed c b at known =
    let core = c.args.core.now in
    let bytes = bytes_there core c.accepted.result.now c.accepted.ensures.held c.accepted.ensures.accepted c.args.place b at
    c.as_slice.result.now (c.as_slice.ensures ∙ c.journal.ensures.bodies) 0 c.index-as_slice-number.result c.index-as_slice-number.result c.index-as_slice-number.is in
    let there = body_there core c.accepted.result.now c.accepted.ensures.held c.accepted.ensures.accepted c.args.place b at 0 in
    let signatures = signatures_there core known c.args.place c.args.self.now c.requires.room _ b there c.index.result.now c.index.ensures in
    c.weight.ensures ∙ weighs core b c.len-bytes.result c.index.result.now (c.len-bytes.ensures ∙ ap length bytes) signatures

pub overflow_sub-self : goal.overflow_sub-self
overflow_sub-self c =
    let all = known (goal.at.overflow_sub-self c).After-journal in
    let (b, at) = some_at (accepted_by c.args.core.now) c.args.place c.requires.accepted in
    is_reserved c.args.core.now all c.requires.grown c.args.place b at c.args.self.now c.requires.room c.weight.result (weighed (goal.at.overflow_sub-self c).After-weight b at all)

pub returns : goal.returns
returns c =
    let all = known (goal.at.returns c).After-journal in
    let (b, at) = some_at (accepted_by c.args.core.now) c.args.place c.requires.accepted in
    record { room = room_released c.args.core.now all c.requires.grown c.args.place b at c.args.self.now c.requires.room c.weight.result (weighed (goal.at.returns c).After-weight b at all) }
