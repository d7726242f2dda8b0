pub mod Escapes
pub mod Printed
pub mod Stamps
pub mod Printable
