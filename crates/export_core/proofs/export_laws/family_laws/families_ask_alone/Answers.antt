use Rattle.export_core.proofs.ExportLawsLemmas.FamilyQuestions.{family_questions}
use Rattle.export_core.proofs.export_laws.family_laws.families_ask_alone.Goals as goal

pub returns : goal.returns
returns c = family_questions
