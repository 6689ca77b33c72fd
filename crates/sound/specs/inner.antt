-- Models, and what serves proofs alone: nothing in this folder need be checked by a reader (docs/TRUST.md).
pub mod Nodes
pub mod Joints
pub mod Walking
pub mod Slots
pub mod Check
pub mod Visits
