-- For a reader: Starred, the one theorem of the one table; OnStore, the same of a laid out store; Sample, one history written out.
pub mod Starred
pub mod OnStore
pub mod Sample
