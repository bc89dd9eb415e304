pub mod OnLiterals
pub mod Parts
pub mod Overlong
pub mod Going
pub mod Ahead
pub mod Agreement
pub mod FirstBytes
pub mod Found
pub mod Reading
mod PlainTexts
mod Rows
