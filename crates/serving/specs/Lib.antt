-- cited by public clauses and laws
pub mod Served
pub mod Wanting
-- inside
pub mod Steps
