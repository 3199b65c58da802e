-- cited by public clauses and laws
pub mod Connects
pub mod Wanting
pub mod Runs
pub mod Promises
