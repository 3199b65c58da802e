pub mod Lines
pub mod Printed
