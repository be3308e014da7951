mod Leftovers
mod Moments
