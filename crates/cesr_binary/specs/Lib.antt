pub mod BinaryDomain
pub mod BinaryLaws
pub mod Mixed
pub mod Wire
pub mod MixedAnswers
pub mod GivenBytes
pub mod MixedReader
