pub mod Playing
pub mod Texts
