-- cited by public clauses and laws
pub mod Handled
pub mod Streams
pub mod Stops
pub mod State
pub mod Hearing
pub mod Laws
-- inside
pub mod InTalk
pub mod Giving
