use Rattle.std.proofs.Common.{inl, inr, refl}
use Rattle.journal.specs.declared.journal.resume_fault.ResumeFault.TheVariants.{OutOfMemory}
use Rattle.witness_core.proofs.WitnessLinkLemmas.Asked.{started_open}
use Rattle.witness_core.proofs.witness_role.role.start.Goals as goal

pub returns-in_default-clause-starts : goal.returns-in_default-clause-starts
returns-in_default-clause-starts g c = inl (record {
  disk_is = c.unstarted.ensures.disk;
  same = rw c.unstarted.ensures.shown refl;
  fault = OutOfMemory;
  none = tt;
  unread = c.unstarted.ensures.unread;
})

pub returns-in-Ok-start-clause-starts : goal.returns-in-Ok-start-clause-starts
returns-in-Ok-start-clause-starts g c =
    let began = c.in-Ok-start.ensures in
    inr (record {
      core = c.in-Ok-start.witness.core;
      started = began.resumed.0;
      listed = rw began.same_shelf at began.resumed.1;
      lawful = rw began.same_shelf at (c.sound.ensures began.fresh.0).lawful;
      none_open = started_open _ _ _ began.resumed.0;
      serves = rw (began.fresh.0, began.fresh.1, began.fresh.2, began.same_shelf) at c.serve.ensures.serves;
    })

pub returns-in-Err-clause-starts : goal.returns-in-Err-clause-starts
returns-in-Err-clause-starts g c =
    let none = c.in-Err.ensures in
    inl (record {
      disk_is = rw none.same_shelf at c.unstarted-in-Err.ensures.disk;
      same = rw c.unstarted-in-Err.ensures.shown refl;
      fault = c.in-Err.none.fault;
      none = none.refused;
      unread = c.unstarted-in-Err.ensures.unread;
    })
