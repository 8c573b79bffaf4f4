use Rattle.std.proofs.Common.{length}
use Rattle.reader_hub.proofs.reader_threads.last_round.+ask_from.Given as goal

-- one reader fewer is left
abbrev pub decreases-ask_from : goal.decreases-ask_from
decreases-ask_from g l = length l.readers.now
