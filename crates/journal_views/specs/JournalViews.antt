pub mod Groups
pub mod Rankings
pub mod Rises
pub mod Bodies
