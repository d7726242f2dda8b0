pub mod Chars
pub mod Numbers
pub mod Grammar
pub mod JsonReading
pub mod Views
pub mod Places
pub mod Escapes
pub mod Flattening
