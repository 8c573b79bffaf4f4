pub mod Journals
pub mod Blame
pub mod Rising
pub mod Claimed
