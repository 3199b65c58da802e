pub mod Tried
pub mod Rounds
