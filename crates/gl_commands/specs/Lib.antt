pub mod CommandReading
pub mod Texts
