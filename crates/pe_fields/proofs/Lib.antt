pub mod OnLiterals
mod Rows
pub mod Tools
pub mod Loops
pub mod Filled
pub mod Sound
pub mod Complete
pub mod Whole
pub mod Digits
pub mod Texts
pub mod Runs
pub mod Last
pub mod ClassTable
