mod Named
mod Splits
pub mod Firsts
pub mod Apart
pub mod Direct
pub mod Ascends
pub mod Positions
