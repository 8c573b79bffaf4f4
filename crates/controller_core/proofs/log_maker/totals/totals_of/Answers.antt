use Rattle.std.proofs.Common.{length, arith}
use Rattle.controller_core.specs.LogMaker.Streams.{logs_from, rotations_from}
use Rattle.controller_core.proofs.LogMakerLemmas.Counts.{log_counted, logs_counted, rotations_counted, all_rotations, logs_few}
use Rattle.controller_core.proofs.log_maker.totals.totals_of.Goals as goal

pub loop-log-preserved : goal.loop-log-preserved
loop-log-preserved c =
    let seed = c.args.seed in
    let log = c.loop-log.log in
    let kept = c.loop-log.invariant in
    record {
      few = omega (arith, c.in-Some.ensures.few, c.in-Some-added.ensures.some.0, c.in-Some-added.ensures.some.1, kept.few);
      rotations = omega (
        arith,
        c.in-Some.ensures.rotations,
        c.in-Some-added.ensures.some.0,
        rotations_counted seed log c.args.logs c.args.events c.loop-log.totals.rotations (rotations_from seed 0 c.args.events c.args.logs) c.loop-log-test.true kept.rotations,
      );
      bytes = omega (
        arith,
        c.in-Some.ensures.bytes,
        c.in-Some-added.ensures.some.1,
        log_counted seed log c.args.logs c.args.events c.loop-log.totals.bytes (length (logs_from seed 0 c.args.events c.args.logs)) c.loop-log-test.true kept.bytes,
      );
    }

pub returns-in_default-clause-many : goal.returns-in_default-clause-many
returns-in_default-clause-many c =
    omega (arith, c.in_default.ensures.many, log_counted c.args.seed c.loop-log.log c.args.logs c.args.events c.loop-log.totals.bytes (length (logs_from c.args.seed 0 c.args.events c.args.logs)) c.loop-log-test.true c.loop-log.invariant.bytes)

pub returns-in_default-clause-few : goal.returns-in_default-clause-few
returns-in_default-clause-few c = logs_few c.args.seed 0 c.args.events c.args.logs

pub returns-in_default-added-clause-many : goal.returns-in_default-added-clause-many
returns-in_default-added-clause-many c =
    omega (arith, c.in-Some.ensures.bytes, c.in_default-added.ensures.none, log_counted c.args.seed c.loop-log.log c.args.logs c.args.events c.loop-log.totals.bytes (length (logs_from c.args.seed 0 c.args.events c.args.logs)) c.loop-log-test.true c.loop-log.invariant.bytes)

pub returns-in_default-added-clause-few : goal.returns-in_default-added-clause-few
returns-in_default-added-clause-few c = logs_few c.args.seed 0 c.args.events c.args.logs

pub returns-clause-rotations : goal.returns-clause-rotations
returns-clause-rotations c = all_rotations c.args.seed c.loop-log.log c.args.logs c.args.events c.loop-log.totals.rotations (rotations_from c.args.seed 0 c.args.events c.args.logs) c.loop-log-test.false c.loop-log.invariant.rotations

pub returns-clause-bytes : goal.returns-clause-bytes
returns-clause-bytes c = logs_counted c.args.seed c.loop-log.log c.args.logs c.args.events c.loop-log.totals.bytes (length (logs_from c.args.seed 0 c.args.events c.args.logs)) c.loop-log-test.false c.loop-log.invariant.bytes

pub returns-clause-few : goal.returns-clause-few
returns-clause-few c = logs_few c.args.seed 0 c.args.events c.args.logs
