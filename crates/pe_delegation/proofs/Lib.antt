pub mod Counting
pub mod Keeping
pub mod Listed
pub mod Numbers
pub mod Slots
