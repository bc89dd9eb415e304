pub mod Lists
pub mod Places
pub mod Requests
pub mod Pending
pub mod Queues
pub mod Indexed
pub mod Kept
