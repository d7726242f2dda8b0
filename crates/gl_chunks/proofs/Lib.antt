pub mod Messages
pub mod Indexing
pub mod Keeping
pub mod Standing
pub mod Answering
