use Rattle.std.proofs.Common.{◌≡◌, ◌∙◌, ⊎_elim, ap, inl, inr, sym}
use Rattle.witness_core.specs.WitnessStore.Faults.{breaks}
use Rattle.witness_core.specs.declared.witness_store.witness_fault.WitnessFault.TheVariants.{LimitReached as NoRoom}
use Rattle.witness_core.proofs.WitnessStoreLemmas.States.{kept_all}
use Rattle.witness_core.proofs.WitnessCoreLemmas.Witnessed.{are_listed, full_untold, goes_by, reads_again, still_stored, stores_on}
use Rattle.witness_core.proofs.witness_core.witness.Witness.take.Goals as goal

pub returns-in-Ok-clause-stored : goal.returns-in-Ok-clause-stored
returns-in-Ok-clause-stored g c =
    let core = c.take_message.new.self.core in
    let s = c.take_message.new.self.shelf in
    λ _. are_listed core s.list s.limits s.broken (g.D.Disk.shown s.disk) c.take_message.new.self.room (kept_all core c.sound.ensures.sound c.sound.ensures.held c.sound.ensures.accepted c.spelled_is_kept.ensures) c.in-Ok.ensures.stored

pub returns-in-Ok-clause-stored_where_asked : goal.returns-in-Ok-clause-stored_where_asked
returns-in-Ok-clause-stored_where_asked g c =
    let core = c.take_message.new.self.core in
    let s = c.take_message.new.self.shelf in
    inr (are_listed core s.list s.limits s.broken (g.D.Disk.shown s.disk) c.take_message.new.self.room (kept_all core c.sound.ensures.sound c.sound.ensures.held c.sound.ensures.accepted c.spelled_is_kept.ensures) c.in-Ok.ensures.stored)

pub returns-in-Ok-clause-read : goal.returns-in-Ok-clause-read
returns-in-Ok-clause-read g c =
    let core = c.take_message.new.self.core in
    let s = c.take_message.new.self.shelf in
    λ _. reads_again core s.list s.limits s.broken (g.D.Disk.shown s.disk) c.take_message.new.self.room c.in-Ok.ensures.stored

pub returns-in-Ok-clause-stores : goal.returns-in-Ok-clause-stores
returns-in-Ok-clause-stores g c =
    let old = c.args.self.now.shelf in
    let s = c.take_message.new.self.shelf in
    λ _. stores_on old.list (g.D.Disk.shown old.disk) c.take_message.new.self.core s.list (g.D.Disk.shown s.disk)
    (kept_all c.take_message.new.self.core c.sound.ensures.sound c.sound.ensures.held c.sound.ensures.accepted c.spelled_is_kept.ensures) c.take_message.ensures.goes_on

pub returns-in-Err-clause-goes : goal.returns-in-Err-clause-goes
returns-in-Err-clause-goes g c = goes_by _ _ c.in-Err.fault c.in-Err.ensures.kept c.args.self.now.broken c.breaks-self.result c.if-self.false c.breaks-self.ensures

pub returns-in-Err-clause-same_at_full : goal.returns-in-Err-clause-same_at_full
returns-in-Err-clause-same_at_full g c =
    λ is.
    let fault : c.in-Err.fault ≡ NoRoom = cc in
    let told = full_untold (g.V.Verifier.says c.args.verifier.now) c.args.self.now.core c.args.message.now c.in-Err.fault c.take_message.new.self.core c.in-Err.ensures.told fault in
    (c.in-Err.ensures.same_at_full fault, c.breaks-self.ensures ∙ ap breaks fault ∙ sym c.if-self.false, told)

pub returns-in-Err-clause-stored : goal.returns-in-Err-clause-stored
returns-in-Err-clause-stored g c =
    let core = c.take_message.new.self.core in
    let s = c.take_message.new.self.shelf in
    λ whole. are_listed core s.list s.limits s.broken (g.D.Disk.shown s.disk) c.take_message.new.self.room
    (kept_all core c.sound-in-Err.ensures.sound c.sound-in-Err.ensures.held c.sound-in-Err.ensures.accepted c.spelled_is_kept-in-Err.ensures) (still_stored _ c.in-Err.fault c.in-Err.ensures.kept c.breaks-self.result c.breaks-self.ensures whole)

pub returns-in-Err-clause-stored_where_asked : goal.returns-in-Err-clause-stored_where_asked
returns-in-Err-clause-stored_where_asked g c =
    let core = c.take_message.new.self.core in
    let s = c.take_message.new.self.shelf in
    ⊎_elim inl
    (λ stored. inr (are_listed core s.list s.limits s.broken (g.D.Disk.shown s.disk) c.take_message.new.self.room
    (kept_all core c.sound-in-Err.ensures.sound c.sound-in-Err.ensures.held c.sound-in-Err.ensures.accepted c.spelled_is_kept-in-Err.ensures) stored))
    c.take_message.ensures.stored_where_asked

pub returns-in-Err-clause-read : goal.returns-in-Err-clause-read
returns-in-Err-clause-read g c =
    let core = c.take_message.new.self.core in
    let s = c.take_message.new.self.shelf in
    λ whole. reads_again core s.list s.limits s.broken (g.D.Disk.shown s.disk) c.take_message.new.self.room (still_stored _ c.in-Err.fault c.in-Err.ensures.kept c.breaks-self.result c.breaks-self.ensures whole)

pub returns-in-Err-clause-stores : goal.returns-in-Err-clause-stores
returns-in-Err-clause-stores g c =
    let old = c.args.self.now.shelf in
    let s = c.take_message.new.self.shelf in
    λ _. stores_on old.list (g.D.Disk.shown old.disk) c.take_message.new.self.core s.list (g.D.Disk.shown s.disk)
    (kept_all c.take_message.new.self.core c.sound-in-Err.ensures.sound c.sound-in-Err.ensures.held c.sound-in-Err.ensures.accepted c.spelled_is_kept-in-Err.ensures) c.take_message.ensures.goes_on

pub invariant_of-self-in-Err-clause-stored : goal.invariant_of-self-in-Err-clause-stored
invariant_of-self-in-Err-clause-stored g c = λ whole. still_stored _ c.in-Err.fault c.in-Err.ensures.kept c.breaks-self.result c.breaks-self.ensures whole
