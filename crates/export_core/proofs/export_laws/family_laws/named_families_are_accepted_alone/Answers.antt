use Rattle.export_core.proofs.ExportLawsLemmas.Families.{named_families}
use Rattle.export_core.proofs.export_laws.family_laws.named_families_are_accepted_alone.Goals as goal

pub returns : goal.returns
returns c = named_families
