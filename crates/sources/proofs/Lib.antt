pub mod Folding
pub mod ReadBefore
pub mod SourcesRead
