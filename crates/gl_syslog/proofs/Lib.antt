pub mod Years
pub mod Puts
