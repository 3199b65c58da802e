mod Arranging
mod Newest
mod HeldLaws
mod Once
pub mod Growing
