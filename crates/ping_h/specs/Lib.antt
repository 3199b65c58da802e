-- cited by public clauses and laws
pub mod Faults
pub mod Echoes
pub mod Rounds
pub mod Rows
