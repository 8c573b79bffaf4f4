use Rattle.export_core.proofs.ExportLawsLemmas.FamilyQuestions.{family_regular}
use Rattle.export_core.proofs.export_laws.family_laws.families_are_regular.Goals as goal

pub returns : goal.returns
returns c = family_regular
