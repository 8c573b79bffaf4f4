use Rattle.std.proofs.Common.{vec_len}
use Rattle.reader_hub.proofs.reader_threads.started.+start.Given as goal

-- one job fewer is left
abbrev pub decreases-start : goal.decreases-start
decreases-start g l = vec_len l.starting.jobs
