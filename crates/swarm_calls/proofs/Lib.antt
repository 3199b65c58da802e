pub mod Adding
pub mod Prefixes
pub mod Replies
pub mod Legal
pub mod Showing
pub mod Calls
