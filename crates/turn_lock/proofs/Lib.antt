mod Cuts
mod Steps
mod Tallies
