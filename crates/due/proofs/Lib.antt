-- For a reader: Times (the laws of due times), Runs (the documents' examples), Floors (floor and remainder) and Single (no second
-- answer meets a promise). The other modules lead up to these and to the proofs of the functions.
pub mod Signs
pub mod Floors
pub mod Ranges
pub mod Moments
pub mod Drums
pub mod Times
pub mod Runs
pub mod Sizes
pub mod Euclid
pub mod NoOverflow
pub mod Single
