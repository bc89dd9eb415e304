pub mod AfterEmbargo
pub mod MostFramesText
pub mod MostMessagesText
pub mod MostStatusesText
