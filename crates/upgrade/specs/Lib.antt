-- cited by public clauses and laws
pub mod Upgrades
pub mod State
pub mod Laws
pub mod Rows
-- inside
pub mod Stages
