use Rattle.std.proofs.Common.{◌∙◌, ◌++◌, ap, inl, refl, take}
use Rattle.lists.specs.KeriSpecs.Shown.{after}
use Rattle.lists.proofs.KeriSpecsLemmas.Putting.{after-nil}
use Rattle.run_status.specs.declared.run_status.close.Close.TheVariants.{OutOfMemory}
use Rattle.witness_core.specs.declared.witness_store.witness_fault.WitnessFault.TheVariants as fault
use Rattle.witness_core.specs.WitnessLink.Calls.{refused_as, seen_in, text_of}
use Rattle.witness_core.proofs.WitnessCoreLemmas.Entering.{untold_itself}
use Rattle.witness_core.proofs.WitnessLinkLemmas.Asked.{untold_asked}
use Rattle.witness_core.proofs.WitnessLinkLemmas.Ones.{one_failed, one_put, one_unput}
use Rattle.witness_core.proofs.WitnessLinkLemmas.Storing.{stores_none}
use Rattle.witness_core.proofs.witness_link.link.serve.Goals as goal

pub returns-in-Err : goal.returns-in-Err
unfolding stores_none
returns-in-Err g c = λ whole.
    let sound = c.sound.ensures whole in
    let w = g.W.Witnessing.seen c.args.service.now in
    one_failed _ _ c.args.message.now (stores_none w.witness.list w.witness.disk w.witness.core (g.met.W.Witnessing.only_now c.args.service.now) sound.stand sound.listed) sound.lawful refl
    (untold_asked w.verifier.inquiries w.witness.core) c.make_place.ensures.refused c.make_place.ensures.seen refl refl fault.OutOfMemory OutOfMemory refl (inl (untold_itself w.witness.core)) refl (0, after-nil w.signer.signings) (inl refl)

pub returns-in-Ok-put_receipts : goal.returns-in-Ok-put_receipts
returns-in-Ok-put_receipts g c = λ whole.
    let took = c.in-Ok-take.ensures.takes whole in
    let keeps = c.in-Ok-take.ensures.same whole in
    let outcome = c.in-Ok-take.outcome in
    one_put _ _ c.args.message.now keeps.stores keeps.lawful (λ i. record { says = c.take.ensures.says i; gives = c.take.ensures.gives i; key = keeps.key i; limits = keeps.limits i })
    c.take.ensures.verdicts outcome.fate outcome.receipts.items (c.sound-in-Ok-take.ensures took.1.whole).holds
    (c.note.ensures.refused ∙ ap (λ l. l ++ refused_as c.args.message.now.place outcome.fate) c.make_place.ensures.refused)
    (c.note.ensures.seen ∙ ap (λ l. l ++ seen_in outcome.fate) c.make_place.ensures.seen) took.1 took.2 c.in-Ok-take.ensures.asked took.0
    (c.in-Ok-put_receipts.ensures.puts ∙ ap (λ l. after (g.K.Sink.written c.args.sink.now) (text_of l)) c.as_slice.ensures.value) c.in-Ok-put_receipts.ensures.cause.else_same

pub returns-in-Ok-take : goal.returns-in-Ok-take
returns-in-Ok-take g c = λ whole.
    let took = c.in-Ok-take.ensures.takes whole in
    let keeps = c.in-Ok-take.ensures.same whole in
    let outcome = c.in-Ok-take.outcome in
    let put = c.in-Err-put_receipts.ensures.puts in
    one_unput _ _ c.args.message.now keeps.stores keeps.lawful (λ i. record { says = c.take.ensures.says i; gives = c.take.ensures.gives i; key = keeps.key i; limits = keeps.limits i })
    c.take.ensures.verdicts outcome.fate outcome.receipts.items (c.sound-in-Ok-take.ensures took.1.whole).holds
    (c.note.ensures.refused ∙ ap (λ l. l ++ refused_as c.args.message.now.place outcome.fate) c.make_place.ensures.refused)
    (c.note.ensures.seen ∙ ap (λ l. l ++ seen_in outcome.fate) c.make_place.ensures.seen) took.1 took.2 c.in-Ok-take.ensures.asked took.0
    put.0 (put.1 ∙ ap (λ l. after (g.K.Sink.written c.args.sink.now) (take put.0 (text_of l))) c.as_slice.ensures.value) c.in-Err-put_receipts.ensures.cause.failed

pub returns : goal.returns
returns g c = λ whole.
    let took = c.in-Err-take.ensures.takes whole in
    let keeps = c.in-Err-take.ensures.same whole in
    one_failed _ _ c.args.message.now keeps.stores keeps.lawful (λ i. record { says = c.take.ensures.says i; gives = c.take.ensures.gives i; key = keeps.key i; limits = keeps.limits i })
    c.take.ensures.verdicts c.make_place.ensures.refused c.make_place.ensures.seen refl refl c.in-Err-take.fault c.close_of.result c.close_of.ensures took.0 took.1 c.in-Err-take.ensures.asked c.take.ensures.stored_where_asked
