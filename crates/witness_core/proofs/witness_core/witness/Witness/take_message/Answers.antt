use Rattle.std.proofs.Common.{ap, arith, inl, inr, length, refl, ◌∙◌}
use Rattle.std.proofs.lemmas.List.Elements.{All-nil}
use Rattle.lists.proofs.KeriSpecsLemmas.Putting.{after-nil}
use Rattle.witness_core.specs.WitnessCore.Outcomes.{IsOfStored}
use Rattle.witness_core.proofs.WitnessCoreLemmas.MessageFates.{fate_receipt, fate_refused}
use Rattle.witness_core.proofs.WitnessCoreLemmas.Outcomes.{asks_none, outcome_asks, outcome_fate, outcome_list, outcome_receipts, outcome_stored, outcome_tells, own_event, own_held, sign_caused, sign_full, sign_kept, sign_room, sign_tells, take_caused}
use Rattle.witness_core.proofs.WitnessStoreLemmas.Results.{err_weaker, if_err, match_both, ok_weaker, on_ok}
use Rattle.witness_core.proofs.witness_core.witness.Witness.take_message.Goals as goal

pub returns-in_err-taken-clause-asked : goal.returns-in_err-taken-clause-asked
returns-in_err-taken-clause-asked g c = asks_none c.args.self.now.key c.args.self.now.core c.take_whole.new.self.core c.args.message.now (g.S.Signer.signings c.args.signer.now) c.from_residual.result c.from_residual.ensures.0

pub returns-in_err-taken-clause-causes : goal.returns-in_err-taken-clause-causes
returns-in_err-taken-clause-causes g c =
    let fault = c.in_err-taken.field-0.0 in
    if_err c.from_residual.result fault _ c.from_residual.ensures.1
    (take_caused (g.D.Disk.shown c.args.self.now.shelf.disk).faults (g.D.Disk.shown c.take_whole.new.self.shelf.disk).faults (g.V.Verifier.faults c.args.verifier.now) (g.V.Verifier.faults c.take_whole.new.verifier)
    (g.S.Signer.faults c.args.signer.now) fault c.in_err-taken.ensures.causes)

pub returns-in_err-taken-clause-stored_where_asked : goal.returns-in_err-taken-clause-stored_where_asked
returns-in_err-taken-clause-stored_where_asked g c = inl refl

pub returns-in-Refused-clause-stored_where_asked : goal.returns-in-Refused-clause-stored_where_asked
returns-in-Refused-clause-stored_where_asked g c = inl refl

pub returns-in-NotAnEvent-clause-stored_where_asked : goal.returns-in-NotAnEvent-clause-stored_where_asked
returns-in-NotAnEvent-clause-stored_where_asked g c = inl refl

pub returns-in-Event-clause-stored_where_asked : goal.returns-in-Event-clause-stored_where_asked
returns-in-Event-clause-stored_where_asked g c = inr c.in_ok-taken.ensures.stored

pub event_outcome-requires-clause-front : goal.event_outcome-requires-clause-front
event_outcome-requires-clause-front g c = omega (arith, ap length c.list-front.ensures, c.in_ok-taken.ensures.stored.all, c.take_whole.ensures.goes_on.longer)

pub event_outcome-requires-clause-held : goal.event_outcome-requires-clause-held
event_outcome-requires-clause-held g c =
    let told = rw c.in-Event.is at c.in_ok-taken.ensures.told in
    let numbered = rw c.in-Event.is at c.in_ok-taken.ensures.taken in
    own_held (g.V.Verifier.says c.args.verifier.now) c.args.self.now.core c.args.message.now c.take_whole.new.self.core c.in-Event.number told.0 numbered

pub event_outcome-requires-clause-event : goal.event_outcome-requires-clause-event
event_outcome-requires-clause-event g c =
    let told = rw c.in-Event.is at c.in_ok-taken.ensures.told in
    let numbered = rw c.in-Event.is at c.in_ok-taken.ensures.taken in
    own_event (g.V.Verifier.says c.args.verifier.now) c.args.self.now.core c.args.message.now c.take_whole.new.self.core c.in-Event.number told.0 numbered

pub returns-in-Refused-clause-fate : goal.returns-in-Refused-clause-fate
returns-in-Refused-clause-fate g c =
    let told = rw c.in-Refused.is at c.in_ok-taken.ensures.told in
    fate_refused c.args.self.now.key c.take_whole.new.self.core c.args.message.now c.in-Refused.reason told.0

pub returns-in-Refused-clause-receipts : goal.returns-in-Refused-clause-receipts
returns-in-Refused-clause-receipts g c = rw c.new.ensures.items tt

pub returns-in-Refused-clause-of_stored : goal.returns-in-Refused-clause-of_stored
returns-in-Refused-clause-of_stored g c = rw c.new.ensures.items (All-nil (IsOfStored c.take_whole.new.self.core))

pub returns-in-Refused-clause-asked : goal.returns-in-Refused-clause-asked
returns-in-Refused-clause-asked g c = after-nil (g.S.Signer.signings c.args.signer.now)

pub returns-in-NotAnEvent-clause-fate : goal.returns-in-NotAnEvent-clause-fate
returns-in-NotAnEvent-clause-fate g c =
    let told = rw c.in-NotAnEvent.is at c.in_ok-taken.ensures.told in
    fate_receipt c.args.self.now.key c.take_whole.new.self.core c.args.message.now told.0

pub returns-in-NotAnEvent-clause-receipts : goal.returns-in-NotAnEvent-clause-receipts
returns-in-NotAnEvent-clause-receipts g c = rw c.new-in-NotAnEvent.ensures.items tt

pub returns-in-NotAnEvent-clause-of_stored : goal.returns-in-NotAnEvent-clause-of_stored
returns-in-NotAnEvent-clause-of_stored g c = rw c.new-in-NotAnEvent.ensures.items (All-nil (IsOfStored c.take_whole.new.self.core))

pub returns-in-NotAnEvent-clause-asked : goal.returns-in-NotAnEvent-clause-asked
returns-in-NotAnEvent-clause-asked g c = after-nil (g.S.Signer.signings c.args.signer.now)

pub returns-in-Event-clause-stored : goal.returns-in-Event-clause-stored
returns-in-Event-clause-stored g c =
    on_ok c.event_outcome.result c.in_ok-taken.ensures.stored

pub returns-in-Event-clause-kept : goal.returns-in-Event-clause-kept
returns-in-Event-clause-kept g c =
    err_weaker c.event_outcome.result _ _ c.event_outcome.ensures.fault (sign_kept (g.S.Signer.faults c.args.signer.now) (g.S.Signer.faults c.event_outcome.new.signer) _ c.in_ok-taken.ensures.stored)

pub returns-in-Event-clause-same_at_full : goal.returns-in-Event-clause-same_at_full
returns-in-Event-clause-same_at_full g c =
    err_weaker c.event_outcome.result _ _ c.event_outcome.ensures.fault (λ fault f is. absurd (sign_room (g.S.Signer.faults c.args.signer.now) (g.S.Signer.faults c.event_outcome.new.signer) fault f is))

pub returns-in-Event-clause-full : goal.returns-in-Event-clause-full
returns-in-Event-clause-full g c =
    match_both c.event_outcome.result _ _ _ _ c.event_outcome.ensures.made c.event_outcome.ensures.fault (λ o made. c.in_ok-taken.ensures.full) (sign_full (g.S.Signer.faults c.args.signer.now) (g.S.Signer.faults c.event_outcome.new.signer) _ c.in_ok-taken.ensures.full)

pub returns-in-Event-clause-told : goal.returns-in-Event-clause-told
returns-in-Event-clause-told g c =
    let told = rw c.in-Event.is at c.in_ok-taken.ensures.told in
    let says = g.V.Verifier.says c.args.verifier.now in
    let old = c.args.self.now.core in
    let new = c.take_whole.new.self.core in
    let m = c.args.message.now in
    let numbered = rw c.in-Event.is at c.in_ok-taken.ensures.taken in
    let front_is = ap length c.list-front.ensures ∙ c.requires.stored.all in
    match_both c.event_outcome.result _ _ _ _ c.event_outcome.ensures.made c.event_outcome.ensures.fault
    (λ o made. outcome_tells says old m new c.in-Event.number told.0 numbered (length c.list-front.result.now) front_is c.args.self.now.key (g.S.Signer.gives c.args.signer.now) o made told.1)
    (sign_tells (g.S.Signer.faults c.args.signer.now) (g.S.Signer.faults c.event_outcome.new.signer) says old m new told.0 told.1)

pub returns-in-Event-clause-same_list : goal.returns-in-Event-clause-same_list
returns-in-Event-clause-same_list g c =
    let told = rw c.in-Event.is at c.in_ok-taken.ensures.told in
    let says = g.V.Verifier.says c.args.verifier.now in
    let old = c.args.self.now.core in
    let new = c.take_whole.new.self.core in
    let m = c.args.message.now in
    let numbered = rw c.in-Event.is at c.in_ok-taken.ensures.taken in
    let front_is = ap length c.list-front.ensures ∙ c.requires.stored.all in
    ok_weaker c.event_outcome.result _ _ c.event_outcome.ensures.made (λ o made. outcome_list says old m new c.in-Event.number told.0 numbered (length c.list-front.result.now) front_is c.args.self.now.key (g.S.Signer.gives c.args.signer.now) o made c.args.self.now.shelf.list c.take_whole.new.self.shelf.list)

pub returns-in-Event-clause-fate : goal.returns-in-Event-clause-fate
returns-in-Event-clause-fate g c =
    let told = rw c.in-Event.is at c.in_ok-taken.ensures.told in
    let says = g.V.Verifier.says c.args.verifier.now in
    let old = c.args.self.now.core in
    let new = c.take_whole.new.self.core in
    let m = c.args.message.now in
    let numbered = rw c.in-Event.is at c.in_ok-taken.ensures.taken in
    let front_is = ap length c.list-front.ensures ∙ c.requires.stored.all in
    ok_weaker c.event_outcome.result _ _ c.event_outcome.ensures.made (λ o made. outcome_fate says old m new c.in-Event.number told.0 numbered (length c.list-front.result.now) front_is c.args.self.now.key (g.S.Signer.gives c.args.signer.now) o made)

pub returns-in-Event-clause-receipts : goal.returns-in-Event-clause-receipts
returns-in-Event-clause-receipts g c =
    let told = rw c.in-Event.is at c.in_ok-taken.ensures.told in
    let says = g.V.Verifier.says c.args.verifier.now in
    let old = c.args.self.now.core in
    let new = c.take_whole.new.self.core in
    let m = c.args.message.now in
    let numbered = rw c.in-Event.is at c.in_ok-taken.ensures.taken in
    let front_is = ap length c.list-front.ensures ∙ c.requires.stored.all in
    ok_weaker c.event_outcome.result _ _ c.event_outcome.ensures.made (λ o made. outcome_receipts says old m new c.in-Event.number told.0 numbered (length c.list-front.result.now) front_is c.args.self.now.key (g.S.Signer.gives c.args.signer.now) o made)

pub returns-in-Event-clause-of_stored : goal.returns-in-Event-clause-of_stored
returns-in-Event-clause-of_stored g c =
    let told = rw c.in-Event.is at c.in_ok-taken.ensures.told in
    let says = g.V.Verifier.says c.args.verifier.now in
    let old = c.args.self.now.core in
    let new = c.take_whole.new.self.core in
    let m = c.args.message.now in
    let numbered = rw c.in-Event.is at c.in_ok-taken.ensures.taken in
    let front_is = ap length c.list-front.ensures ∙ c.requires.stored.all in
    ok_weaker c.event_outcome.result _ _ c.event_outcome.ensures.made (λ o made. outcome_stored says old m new c.in-Event.number told.0 numbered (length c.list-front.result.now) front_is c.args.self.now.key (g.S.Signer.gives c.args.signer.now) o made)

pub returns-in-Event-clause-asked : goal.returns-in-Event-clause-asked
returns-in-Event-clause-asked g c =
    let told = rw c.in-Event.is at c.in_ok-taken.ensures.told in
    let says = g.V.Verifier.says c.args.verifier.now in
    let old = c.args.self.now.core in
    let new = c.take_whole.new.self.core in
    let m = c.args.message.now in
    let numbered = rw c.in-Event.is at c.in_ok-taken.ensures.taken in
    let front_is = ap length c.list-front.ensures ∙ c.requires.stored.all in
    outcome_asks says old m new c.in-Event.number told.0 numbered (length c.list-front.result.now) front_is c.args.self.now.key (g.S.Signer.gives c.args.signer.now)
    (g.S.Signer.signings c.args.signer.now) (g.S.Signer.signings c.event_outcome.new.signer) (g.S.Signer.faults c.args.signer.now) (g.S.Signer.faults c.event_outcome.new.signer) c.event_outcome.result c.event_outcome.ensures.made c.event_outcome.ensures.fault c.event_outcome.ensures.asked

pub returns-in-Event-clause-disk_same : goal.returns-in-Event-clause-disk_same
returns-in-Event-clause-disk_same g c =
    on_ok c.event_outcome.result c.in_ok-taken.ensures.disk_same

pub returns-in-Event-clause-verifier_same : goal.returns-in-Event-clause-verifier_same
returns-in-Event-clause-verifier_same g c =
    on_ok c.event_outcome.result c.in_ok-taken.ensures.verifier_same

pub returns-in-Event-clause-causes : goal.returns-in-Event-clause-causes
returns-in-Event-clause-causes g c =
    err_weaker c.event_outcome.result _ _ c.event_outcome.ensures.fault
    (sign_caused (g.S.Signer.faults c.args.signer.now) (g.S.Signer.faults c.event_outcome.new.signer) (g.D.Disk.shown c.args.self.now.shelf.disk).faults (g.D.Disk.shown c.take_whole.new.self.shelf.disk).faults (g.V.Verifier.faults c.args.verifier.now) (g.V.Verifier.faults c.take_whole.new.verifier)
    c.in_ok-taken.ensures.disk_same c.in_ok-taken.ensures.verifier_same)
