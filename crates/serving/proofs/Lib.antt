pub mod Acts
pub mod Refusals
pub mod StageKinds
pub mod Going
pub mod Sending
