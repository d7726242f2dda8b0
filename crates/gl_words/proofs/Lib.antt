pub mod Choosing
pub mod Finding
pub mod Rising
pub mod Standing
pub mod Walking
