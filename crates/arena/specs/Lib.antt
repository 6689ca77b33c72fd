pub mod Branch
pub mod Words
pub mod Keys
pub mod Header
pub mod Laying
pub mod inner
