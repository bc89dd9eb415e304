pub mod PageEvents
pub mod IsolationLaws
