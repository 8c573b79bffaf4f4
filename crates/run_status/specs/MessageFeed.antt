pub mod Serving
pub mod Closing
pub mod Pieces
pub mod Feeds
pub mod Texts
