-- cited by public clauses and laws
pub mod Dispatch
