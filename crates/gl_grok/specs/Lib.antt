pub mod Answers
pub mod Expansion
pub mod Fronts
pub mod Initial
pub mod Names
pub mod Pieces
pub mod Tables
pub mod Unwinding
