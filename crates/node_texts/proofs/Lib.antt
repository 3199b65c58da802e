pub mod Addresses
pub mod Digits
