pub mod Answers
pub mod Exchanges
pub mod Fields
pub mod Front
pub mod Heads
pub mod Refusals
pub mod ReplyBytes
pub mod Routes
