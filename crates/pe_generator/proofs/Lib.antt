pub mod Joined
pub mod Lengths
pub mod Numerals
pub mod Parts
pub mod ToCome
