pub mod ReaderHubLemmas
pub mod SharedReaderLemmas
pub mod ReaderThreadsLemmas
