pub mod Lines
mod Peers
mod Printed
pub mod Tails
pub mod Words
