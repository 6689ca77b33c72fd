pub mod Decides
pub mod inner
