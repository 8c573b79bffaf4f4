pub mod KeriDiskLemmas
pub mod ShelfLogLemmas
