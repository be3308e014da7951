mod Gathering
mod Asking
mod Joins
mod Prefixes
mod Telling
