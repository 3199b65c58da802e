pub mod Bytes
pub mod Frames
pub mod Front
pub mod Readings
pub mod Ends
pub mod OneAnswer
pub mod Rows
