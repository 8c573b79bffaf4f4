pub mod Messages
pub mod Dues
pub mod Made
pub mod Causes
pub mod Never
pub mod ConvertedCauses
pub mod Statuses
pub mod Generated
