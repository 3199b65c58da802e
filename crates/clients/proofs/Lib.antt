pub mod Agreeing
pub mod Conversing
pub mod Dialing
pub mod Proving
pub mod Running
pub mod Stopping
