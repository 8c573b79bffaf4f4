pub mod ServedFile
pub mod ServedCauses
pub mod ThroughLinks
pub mod ComingLinks
pub mod ServedLinks
pub mod LinksCauses
pub mod WitnessedCauses
