pub mod Prefixes
pub mod Echoing
pub mod Rounding
pub mod Rows
pub mod Refusing
pub mod Stopping
pub mod Coming
