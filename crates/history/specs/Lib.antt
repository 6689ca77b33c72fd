-- Demand 3 in definitions: what an answer tells, the book kept over a history, what is claimed, and what a store has to show for it.
pub mod Deed
pub mod Book
pub mod Demand
pub mod Follow
