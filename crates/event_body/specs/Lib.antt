pub mod BodyFields
pub mod EventBody
pub mod EventWriting
