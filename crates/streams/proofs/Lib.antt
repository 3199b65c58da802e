pub mod Handling
pub mod Hearing
pub mod Moving
pub mod Giving
pub mod Deciding
pub mod Beginning
pub mod Sending
