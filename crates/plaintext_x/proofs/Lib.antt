pub mod Parts
pub mod Bodies
pub mod Steps
pub mod OneOutcome
pub mod Own
pub mod SomeOutcome
pub mod Cut
pub mod Rows
