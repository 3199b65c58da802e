pub mod Awaiting
pub mod Script
pub mod Trace
