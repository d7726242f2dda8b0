pub mod Shrinking
pub mod Ending
pub mod Staying
pub mod Walking
pub mod Looking
pub mod Going
