pub mod Cutting
pub mod Parts
pub mod Reading
pub mod Signs
