mod Following
pub mod Notified
pub mod Wrote
