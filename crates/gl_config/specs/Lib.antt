pub mod Next
pub mod Applying
pub mod Refusals
