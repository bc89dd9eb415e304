pub mod Below
pub mod Kept
pub mod Places
pub mod Registry
