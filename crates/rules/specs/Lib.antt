-- The definitions of document 01, a module for each part of it.
pub mod Queue
pub mod Answers
pub mod Place
pub mod Insert
pub mod Remove
pub mod Look
pub mod Sound
pub mod LayOut
pub mod Table
pub mod Calls
pub mod inner
