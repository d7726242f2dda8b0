pub mod Pages
pub mod Hits
