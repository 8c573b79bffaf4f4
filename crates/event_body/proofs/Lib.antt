pub mod BodyFieldsLemmas
pub mod EventBodyLemmas
pub mod EventWritingLemmas
