pub mod Lefts
mod UpTo
pub mod Standing
