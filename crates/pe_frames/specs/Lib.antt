pub mod Forest
pub mod Kept
pub mod Lends
pub mod Neighbours
pub mod Order
pub mod Walk
