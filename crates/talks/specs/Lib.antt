-- cited by public clauses and laws
pub mod Talks
pub mod State
pub mod Laws
-- inside
pub mod Fields
pub mod Hearing
