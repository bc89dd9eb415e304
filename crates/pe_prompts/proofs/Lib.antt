pub mod Items
pub mod Noted
pub mod Requests
pub mod Pending
pub mod Kept
pub mod Indexed
