pub mod Judging
pub mod Session
pub mod Outcome
pub mod Words
