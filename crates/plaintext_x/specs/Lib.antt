-- cited by public clauses and laws
pub mod Exchange
pub mod Rows
-- inside: no public clause cites them
pub mod Standing
