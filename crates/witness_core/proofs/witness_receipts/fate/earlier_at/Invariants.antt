use Rattle.std.proofs.Common.{◌≡◌, take}
use Rattle.validator_core.specs.ValidatorCore.View.{accepted_by}
use Rattle.witness_core.specs.WitnessReceipts.Fates.{live_there}
use Rattle.witness_core.proofs.witness_receipts.fate.earlier_at.Given as goal

-- what is left says as much as all
abbrev pub invariant-loop-place : goal.invariant-loop-place
invariant-loop-place l = live_there (take l.place (accepted_by l.core)) l.prefix l.sn ≡ live_there (accepted_by l.core) l.prefix l.sn
