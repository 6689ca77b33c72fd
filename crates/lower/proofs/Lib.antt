pub mod ClimbLoop
pub mod LowerLeaves
