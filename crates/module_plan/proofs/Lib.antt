pub mod Filed
pub mod FirstPlaces
pub mod Lists
pub mod Naming
pub mod Walks
pub mod EntryWalks
