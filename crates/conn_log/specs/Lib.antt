-- cited by public clauses and laws
pub mod Entries
pub mod Asking
pub mod Turns
pub mod Due
pub mod Making
pub mod Held
pub mod Rests
pub mod Asked
-- inside
pub mod Routes
