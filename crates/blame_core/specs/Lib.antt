pub mod BlameLaws
pub mod BlameCore
