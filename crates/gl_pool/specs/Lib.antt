pub mod Claims
pub mod Inside
pub mod Kept
pub mod Taking
