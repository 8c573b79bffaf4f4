use Rattle.std.proofs.Common.{take}
use Rattle.std.specs.List.{AllByRecursion}
use Rattle.event_body.specs.BodyFields.Strings.{HoldsOne}
use Rattle.event_body.proofs.body_fields.strings.are_all.Given as goal

-- the values so far hold one each
abbrev pub invariant-loop-value : goal.invariant-loop-value
invariant-loop-value g l = AllByRecursion (HoldsOne g.P.Spelled.spelling g.P.Spelled.is_valid) (take l.value-index l.values)
