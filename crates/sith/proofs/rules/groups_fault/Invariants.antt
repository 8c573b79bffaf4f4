use Rattle.std.proofs.Common.{take}
use Rattle.std.specs.List.{flat_map}
use Rattle.sith.specs.Terms.{inner_of}
use Rattle.sith.specs.Rules.{IsSumsFault}
use Rattle.sith.proofs.rules.groups_fault.Given as goal

-- the fault of the groups so far
abbrev pub invariant-loop-term : goal.invariant-loop-term
invariant-loop-term l = IsSumsFault l.fault (flat_map inner_of (take l.term-index l.terms))
