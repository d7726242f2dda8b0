pub mod LineFraming
pub mod LineFrames
pub mod Reader
pub mod Fronts
pub mod Inside
pub mod ZeroFraming
pub mod ZeroReader
pub mod ZeroFronts
