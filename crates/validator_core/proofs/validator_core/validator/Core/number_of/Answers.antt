use Rattle.validator_core.proofs.validator_core.validator.Core.number_of.Goals as goal

pub number_of-requires-clause-all_spelled : goal.number_of-requires-clause-all_spelled
number_of-requires-clause-all_spelled c = λ n b at. (c.self.invariant.sound.spelled n b at).spelled
