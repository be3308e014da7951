mod Below
mod Changes
mod Follows
mod Fronts
mod Firsts
pub mod Fits
mod Going
pub mod HeldAt
pub mod Law
pub mod LockRows
pub mod Runs
mod Starts
mod Stuck
mod Taken
pub mod Ties
pub mod Weights
