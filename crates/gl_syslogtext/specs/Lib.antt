pub mod Sections
pub mod Data
pub mod MessageReading
pub mod Rfc5424
pub mod Rfc3164
