pub mod ExportLaws
pub mod ExportCore
