pub mod Hooks
pub mod LinkLaws
pub mod StepLaws
