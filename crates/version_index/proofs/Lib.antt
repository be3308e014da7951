pub mod Sets
pub mod Lines
pub mod Names
pub mod Fronts
pub mod Sorting
pub mod Entered
pub mod Worked
