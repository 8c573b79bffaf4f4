use Rattle.std.proofs.Common.{sym, subst}
use Rattle.validator_core.specs.ValidatorCore.Verdicts.{Asks}
use Rattle.validator_core.specs.ValidatorCore.View.{open_of}
use Rattle.validator_core.proofs.ValidatorCoreLemmas.OpenQuestions.{asks_so}
use Rattle.witness_core.specs.WitnessStore.Histories.{history_of}
use Rattle.witness_core.specs.WitnessStore.Storing.{AreStored, GoesOn}
use Rattle.witness_core.proofs.WitnessStoreLemmas.Asked.{noted_fits, noted_grown, noted_way}
use Rattle.witness_core.proofs.WitnessStoreLemmas.Asking.{asks_none, asks_one}
use Rattle.witness_core.proofs.WitnessStoreLemmas.Results.{on_ok}
use Rattle.witness_core.proofs.WitnessStoreLemmas.Stored.{goes_none, goes_of}
use Rattle.witness_core.proofs.witness_store.open_questions.ask_one.Goals as goal

pub store-requires-clause-on_way : goal.store-requires-clause-on_way
store-requires-clause-on_way g c = noted_way c.args.core.now c.ask.new.self c.args.question.now c.in-Ok.field-0 c.in-Ok.ensures.noted c.args.shelf.now.list c.args.shelf.now.limits c.args.shelf.now.broken (g.D.Disk.shown c.args.shelf.now.disk) c.args.room.now c.requires.stored

pub store-requires-clause-grown : goal.store-requires-clause-grown
store-requires-clause-grown g c = noted_grown c.args.core.now c.ask.new.self c.args.question.now c.in-Ok.field-0 c.in-Ok.ensures.noted c.args.shelf.now.list c.args.shelf.now.limits c.args.shelf.now.broken (g.D.Disk.shown c.args.shelf.now.disk) c.args.room.now c.requires.stored

pub store-requires-clause-fits : goal.store-requires-clause-fits
store-requires-clause-fits g c = noted_fits c.args.core.now c.ask.new.self c.args.question.now c.in-Ok.field-0 c.in-Ok.ensures.noted c.args.shelf.now.list c.args.shelf.now.limits c.args.shelf.now.broken (g.D.Disk.shown c.args.shelf.now.disk) c.args.room.now c.requires.stored

pub returns-in-Ok-clause-goes_on : goal.returns-in-Ok-clause-goes_on
returns-in-Ok-clause-goes_on g c = goes_of (history_of c.ask.new.self) c.args.shelf.now.list c.store.new.shelf.list (g.D.Disk.shown c.args.shelf.now.disk) (g.D.Disk.shown c.store.new.shelf.disk) c.store.ensures.appends

pub returns-in-Ok-clause-asks : goal.returns-in-Ok-clause-asks
returns-in-Ok-clause-asks g c =
    let says = g.V.Verifier.says c.args.verifier.now in
    let before = g.V.Verifier.inquiries c.args.verifier.now in
    let now = g.V.Verifier.inquiries c.ask.new.verifier in
    asks_so says before now c.args.core.now c.ask.new.self (open_of c.ask.new.self)
    (asks_one says before now c.args.core.now c.args.question.now c.ask.new.self c.in-Ok.field-0 c.in-Ok.ensures.said (rw c.in-Ok.is at c.ask.ensures.asked) c.in-Ok.ensures.noted)

pub returns-in-Ok-clause-heard : goal.returns-in-Ok-clause-heard
returns-in-Ok-clause-heard g c =
    on_ok c.store.result
    (asks_one (g.V.Verifier.says c.args.verifier.now) (g.V.Verifier.inquiries c.args.verifier.now) (g.V.Verifier.inquiries c.ask.new.verifier) c.args.core.now c.args.question.now c.ask.new.self c.in-Ok.field-0 c.in-Ok.ensures.said (rw c.in-Ok.is at c.ask.ensures.asked) c.in-Ok.ensures.noted)

pub returns-in-Err-VerifierFault-clause-goes_on : goal.returns-in-Err-VerifierFault-clause-goes_on
returns-in-Err-VerifierFault-clause-goes_on g c =
    subst (λ core. GoesOn c.args.shelf.now.list (g.D.Disk.shown c.args.shelf.now.disk) (history_of core) c.args.shelf.now.list (g.D.Disk.shown c.args.shelf.now.disk)) (sym (rw c.in-Err-VerifierFault.is at c.ask.ensures.err))
    (goes_none (history_of c.args.core.now) c.args.shelf.now.list (g.D.Disk.shown c.args.shelf.now.disk) (g.met.D.Disk.only_now c.args.shelf.now.disk) c.requires.stored.on_way c.requires.stored.holds)

pub returns-in-Err-VerifierFault-clause-asks : goal.returns-in-Err-VerifierFault-clause-asks
returns-in-Err-VerifierFault-clause-asks g c =
    let says = g.V.Verifier.says c.args.verifier.now in
    let before = g.V.Verifier.inquiries c.args.verifier.now in
    let now = g.V.Verifier.inquiries c.ask.new.verifier in
    subst (λ core. Asks says before now c.args.core.now core (open_of core)) (sym (rw c.in-Err-VerifierFault.is at c.ask.ensures.err))
    (asks_none says before now c.args.core.now c.args.question.now c.requires.is_open c.ask.result c.ask.ensures.asked)

pub returns-in-Err-OutOfMemory-clause-goes_on : goal.returns-in-Err-OutOfMemory-clause-goes_on
returns-in-Err-OutOfMemory-clause-goes_on g c =
    subst (λ core. GoesOn c.args.shelf.now.list (g.D.Disk.shown c.args.shelf.now.disk) (history_of core) c.args.shelf.now.list (g.D.Disk.shown c.args.shelf.now.disk)) (sym (rw c.in-Err-OutOfMemory.is at c.ask.ensures.err))
    (goes_none (history_of c.args.core.now) c.args.shelf.now.list (g.D.Disk.shown c.args.shelf.now.disk) (g.met.D.Disk.only_now c.args.shelf.now.disk) c.requires.stored.on_way c.requires.stored.holds)

pub returns-in-Err-OutOfMemory-clause-asks : goal.returns-in-Err-OutOfMemory-clause-asks
returns-in-Err-OutOfMemory-clause-asks g c =
    let says = g.V.Verifier.says c.args.verifier.now in
    let before = g.V.Verifier.inquiries c.args.verifier.now in
    let now = g.V.Verifier.inquiries c.ask.new.verifier in
    subst (λ core. Asks says before now c.args.core.now core (open_of core)) (sym (rw c.in-Err-OutOfMemory.is at c.ask.ensures.err))
    (asks_none says before now c.args.core.now c.args.question.now c.requires.is_open c.ask.result c.ask.ensures.asked)

pub returns-in-Err-VerifierFault-clause-kept : goal.returns-in-Err-VerifierFault-clause-kept
returns-in-Err-VerifierFault-clause-kept g c =
    subst (λ core. AreStored (history_of core) c.args.shelf.now.list c.args.shelf.now.limits c.args.shelf.now.broken (g.D.Disk.shown c.args.shelf.now.disk) c.args.room.now)
    (sym (rw c.in-Err-VerifierFault.is at c.ask.ensures.err)) c.requires.stored
