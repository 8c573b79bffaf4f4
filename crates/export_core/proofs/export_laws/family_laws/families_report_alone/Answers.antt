use Rattle.export_core.proofs.ExportLawsLemmas.FamilyReport.{family_report}
use Rattle.export_core.proofs.export_laws.family_laws.families_report_alone.Goals as goal

pub returns : goal.returns
returns c = family_report
