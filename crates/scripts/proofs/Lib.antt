pub mod Climbs
pub mod Dues
mod Most
mod Readings
pub mod ScriptPlaces
