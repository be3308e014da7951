pub mod Crew
pub mod Endings
pub mod Faulty
pub mod Finishing
pub mod Idle
pub mod Swept
