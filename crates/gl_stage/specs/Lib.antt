pub mod Stages
pub mod Rounds
pub mod Books
pub mod Lent
