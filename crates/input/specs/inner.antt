-- Models, and what serves proofs alone: nothing in this folder need be checked by a reader (docs/TRUST.md).
pub mod Numbers
pub mod Fields
pub mod Lines
