use Rattle.std.proofs.Common.{◌≡◌, take}
use Rattle.std.specs.Prelude.{flat_map}
use Rattle.journal.specs.Journal.Replies.{claims_of_group}
use Rattle.validator_core.proofs.validator_core.claims.claims_of.Given as goal

abbrev pub invariant-loop-group : goal.invariant-loop-group
invariant-loop-group l = l.claims ≡ flat_map claims_of_group (take l.group-index l.message.groups)
