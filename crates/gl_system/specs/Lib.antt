pub mod Mute
