pub mod Saying
pub mod Covering
pub mod Union
pub mod Texting
pub mod Gathering
