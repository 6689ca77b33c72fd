-- Models, and what serves proofs alone: nothing in this folder need be checked by a reader (docs/TRUST.md).
pub mod Budget
pub mod Only
pub mod Laying
pub mod Slots
pub mod Entries
pub mod Stored
pub mod Says
