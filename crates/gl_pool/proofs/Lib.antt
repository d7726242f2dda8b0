pub mod Spans
pub mod Standing
