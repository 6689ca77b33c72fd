-- Due times: document 01's definitions (Due, over Floor), and what this crate's answers say in them.
pub mod Floor
pub mod Due
pub mod TimeAnswers
