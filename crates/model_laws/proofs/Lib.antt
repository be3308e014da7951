mod Least
mod Parts
mod Tests
mod Firsts
mod Told
mod Levels
mod Laws
mod PomsWorked
mod Filled
mod Found
mod LinesOnce
mod Rooted
mod Stated
mod WholeLines
pub mod Picked
pub mod Plans
mod Composed
mod FirstOfEach
mod Injected
mod Keys
mod Merges
mod Once
mod Places
mod Plugins
mod Worked
