mod Few
mod Meeting
mod Compiles
