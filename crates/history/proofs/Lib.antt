-- What is proved of a history. For a reader: Demand3 (every list of calls), Nothing (refused and looking calls) and Followed (what a
-- store has to show); the other modules lead up to these.
pub mod After
pub mod Shuffle
pub mod Same
pub mod Live
pub mod Passed
pub mod Induction
pub mod Demand3
pub mod Nothing
pub mod Followed
