pub mod DiskFileLemmas
