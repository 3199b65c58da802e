-- cited by public clauses and laws
pub mod Messages
pub mod Listening
pub mod Dialing
pub mod Sides
pub mod Joined
pub mod Laws
pub mod Rows
pub mod Output
pub mod Verdicts
pub mod Sound
