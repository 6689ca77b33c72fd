pub mod Looked
pub mod Keeping
pub mod LayingOut
pub mod Promising
pub mod Single
pub mod OneMeaning
pub mod Follows
