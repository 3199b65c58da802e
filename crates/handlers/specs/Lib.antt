-- cited by public clauses and laws
pub mod Calls
pub mod Names
pub mod Numbered
