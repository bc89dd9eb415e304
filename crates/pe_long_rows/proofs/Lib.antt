pub mod Counts
pub mod Repeated
pub mod FirstPage
pub mod MostFrames
pub mod MostStatuses
pub mod MostMessages
