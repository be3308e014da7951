mod Examples
pub mod NoFloats
