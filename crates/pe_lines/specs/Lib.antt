pub mod Lines
pub mod Rests
pub mod Cutting
pub mod Texts
pub mod Words
pub mod Grammar
pub mod Steps
