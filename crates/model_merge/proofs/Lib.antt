mod Pairing
pub mod UnderKeys
mod Singles
