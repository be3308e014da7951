mod Leading
pub mod Alone
