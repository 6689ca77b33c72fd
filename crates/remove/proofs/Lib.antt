pub mod RemoveLeaves
