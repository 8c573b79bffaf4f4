pub mod ExportLawsLemmas
pub mod ExportCoreLemmas
