pub mod Candidates
pub mod Inside
pub mod Positions
pub mod Texts
pub mod Words
