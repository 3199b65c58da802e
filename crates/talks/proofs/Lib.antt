pub mod Outcomes
pub mod Hearing
pub mod Ends
pub mod Running
