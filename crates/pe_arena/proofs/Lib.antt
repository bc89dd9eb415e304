pub mod Kept
pub mod Lists
pub mod Live
pub mod Seen
