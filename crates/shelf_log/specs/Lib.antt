pub mod KeriDisk
pub mod ShelfLog
