pub mod Sight
pub mod Finding
