-- inside
pub mod Boards
pub mod Resets
pub mod Goings
-- cited by public clauses and laws
pub mod Handlers
