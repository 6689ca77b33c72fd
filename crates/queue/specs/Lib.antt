pub mod Promises
pub mod Readings
pub mod Promised
pub mod inner
