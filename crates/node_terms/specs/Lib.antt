pub mod Endings
pub mod Errands
