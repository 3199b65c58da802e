-- cited by public clauses and laws
pub mod Fixed
pub mod Handlers
pub mod Own
pub mod Makes
