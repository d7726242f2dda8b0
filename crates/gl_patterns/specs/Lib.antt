pub mod Built
pub mod Cells
pub mod Patterns
pub mod Shop
