pub mod Causes
pub mod FileMaps
pub mod Maps
pub mod Told
