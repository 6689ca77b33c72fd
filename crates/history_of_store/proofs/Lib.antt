pub mod Linked
pub mod Checked
