pub mod Faults
pub mod Spellings
pub mod Options
pub mod WordExamples
