pub mod Walks
pub mod Lacking
pub mod Spans
pub mod Texts
pub mod Settings
pub mod TablePairs
pub mod Firsts
