pub mod Numerals
pub mod Names
pub mod Verbs
pub mod Reading
pub mod Taking
pub mod OptionSteps
pub mod Readers
pub mod Answering
