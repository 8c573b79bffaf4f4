use Rattle.std.proofs.Common.{◌-◌, ◌≡◌, ◌≤◌}
use Rattle.cesr_binary.specs.GivenBytes.{IsGiven}
use Rattle.cesr_binary.proofs.either_reader.EitherReader.read.Given as goal

abbrev pub invariant-loop-self : goal.invariant-loop-self
invariant-loop-self l = IsGiven l.bytes l.self × (l.self.text.limit ≡ l.fn.self.text.limit) × (l.self.text.begun ≡ l.fn.self.text.begun) ×
    (l.fn.self.given ≤ l.self.given)

abbrev pub decreases-loop-self : goal.decreases-loop-self
decreases-loop-self l = l.all - l.self.given
