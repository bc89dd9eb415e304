pub mod Texts
pub mod Words
pub mod Stretches
pub mod Outcomes
pub mod Clauses
pub mod Answered
pub mod Changing
pub mod Judgings
