use Rattle.std.proofs.Common.{ap, arith, length, subst}
use Rattle.witness_core.specs.WitnessStore.Starts.{IsStarted}
use Rattle.witness_core.proofs.WitnessStoreLemmas.States.{kept_all}
use Rattle.witness_core.proofs.WitnessCoreLemmas.Witnessed.{are_listed, durable_holds, started_stored}
use Rattle.witness_core.proofs.witness_core.witness.Witness.start.Goals as goal

pub begin-requires : goal.begin-requires
begin-requires g c = omega (arith, ap length c.list.ensures, c.args.shelf.counted, c.args.shelf.limits.records_standard)

pub invariant_of-result : goal.invariant_of-result
invariant_of-result g c =
    let s = c.args.shelf in
    let begun = c.in-Ok.field-0 in
    let started = subst (λ l. IsStarted c.args.limits l begun.core) c.list.ensures c.in-Ok.ensures.started in
    record {
      fixed = c.requires.backer;
      local = started.mode_is;
      core_limits = started.limits_are;
      shelf_limits = c.requires.limits;
      stored = λ _. started_stored begun.core s.list c.args.limits s.limits s.broken (g.D.Disk.shown s.disk) begun.room started c.in-Ok.ensures.room s.counted c.requires.whole
          (durable_holds (g.D.Disk.shown s.disk) s.list (s.durable c.requires.whole));
    }

pub returns-in-Ok-clause-resumed : goal.returns-in-Ok-clause-resumed
returns-in-Ok-clause-resumed g c =
    let s = c.args.shelf in
    let begun = c.in-Ok.field-0 in
    let started = subst (λ l. IsStarted c.args.limits l begun.core) c.list.ensures c.in-Ok.ensures.started in (
      started,
      are_listed begun.core s.list s.limits s.broken (g.D.Disk.shown s.disk) begun.room
          (kept_all begun.core c.sound.ensures.sound c.sound.ensures.held c.sound.ensures.accepted c.spelled_is_kept.ensures)
          (started_stored begun.core s.list c.args.limits s.limits s.broken (g.D.Disk.shown s.disk) begun.room started c.in-Ok.ensures.room s.counted c.requires.whole (durable_holds (g.D.Disk.shown s.disk) s.list (s.durable c.requires.whole))),
    )
