pub mod BlameLawsLemmas
pub mod BlameCoreLemmas
