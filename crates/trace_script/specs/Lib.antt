pub mod Played
pub mod Printed
