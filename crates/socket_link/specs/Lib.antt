-- cited by public clauses
pub mod Tries
pub mod Steps
pub mod Sockets
-- cited by laws
pub mod Kept
