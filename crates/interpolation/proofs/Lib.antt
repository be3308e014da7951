mod Cuts
mod ValueLists
mod Plain
pub mod ValuesStanding
mod Steps
mod Lists
mod Refusals
mod Standing
