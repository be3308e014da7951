pub mod Faults
pub mod Libraries
pub mod Telling
pub mod Jars
pub mod Rows
pub mod Found
pub mod Counting
pub mod Keys
