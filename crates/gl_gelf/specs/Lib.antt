pub mod Decimals
pub mod Members
pub mod Decoding
pub mod Parts
pub mod NumberParts
