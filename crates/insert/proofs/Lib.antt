pub mod EveryAnswer
pub mod Keeps
pub mod InsertLeaves
