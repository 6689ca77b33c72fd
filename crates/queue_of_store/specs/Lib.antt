pub mod Ends
pub mod Links
pub mod Chain
pub mod Entries
pub mod Free
pub mod Holds
pub mod Handles
pub mod inner
