use Rattle.validator_core.specs.ValidatorCore.View.{accepted_by}
use Rattle.export_core.proofs.ExportCoreLemmas.Families.{AreFound}
use Rattle.export_core.proofs.export_core.family.family_of.Given as goal

-- those so far are found
abbrev pub invariant-loop : goal.invariant-loop
invariant-loop l = AreFound (accepted_by l.fn.core) l.fn.first l.last l.family.keys
