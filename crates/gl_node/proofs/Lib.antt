mod Adding
pub mod Appending
mod Chains
mod Entered
pub mod Finishes
pub mod Grants
pub mod Keeping
mod Moments
mod OneThread
pub mod Outcomes
pub mod Ready
mod Shown
pub mod Sizes
pub mod Steps
pub mod Tiling
pub mod Damages
pub mod Taking
pub mod Logs
pub mod TakenUp
pub mod Reopened
pub mod Openings
pub mod Tables
pub mod Datagrams
