pub mod Climbs
pub mod Fixes
pub mod RaiseLeaves
