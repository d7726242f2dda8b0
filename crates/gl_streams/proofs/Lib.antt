pub mod Putting
pub mod Belonging
pub mod Gathering
