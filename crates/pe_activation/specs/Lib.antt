pub mod Consuming
pub mod Notifying
pub mod Stamps
