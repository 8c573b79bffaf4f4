use Rattle.export_core.proofs.ExportLawsLemmas.Families.{families}
use Rattle.export_core.proofs.export_laws.family_laws.families_are_accepted_alone.Goals as goal

pub returns : goal.returns
returns c = families
