use Rattle.std.proofs.Common.{take}
use Rattle.std.specs.List.{AllByRecursion}
use Rattle.event_body.specs.BodyFields.Strings.{IsText}
use Rattle.event_body.proofs.body_fields.strings.are_strings.Given as goal

-- the values so far are strings
abbrev pub invariant-loop-value : goal.invariant-loop-value
invariant-loop-value l = AllByRecursion IsText (take l.value-index l.values)
