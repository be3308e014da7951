mod Batches
mod BatchEnding
mod Freeing
pub mod NoEnds
pub mod Stepping
pub mod Taking
mod FilesFitting
mod Lasting
mod FilesLeaving
mod Placing
mod Staging
mod FilesStopping
pub mod Entries
pub mod ReadingLeaving
pub mod Repeats
pub mod Standings
mod Answered
mod Few
mod Outcomes
mod GoalPlaces
mod Rounds
pub mod Afters
pub mod InstallEnding
pub mod Files
pub mod InstallFitting
pub mod Going
pub mod Owns
pub mod InstallPieces
pub mod InstallPlaces
pub mod InstallStopping
pub mod Counts
pub mod Ended
pub mod Freed
