-- Document 01's starred runs, written out by hand.
pub mod Starred
pub mod OnStore
pub mod inner
