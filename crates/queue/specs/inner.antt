-- Models, and what serves proofs alone: nothing in this folder need be checked by a reader (docs/TRUST.md).
pub mod Header
pub mod Looking
pub mod Moving
pub mod Placing
pub mod Taking
