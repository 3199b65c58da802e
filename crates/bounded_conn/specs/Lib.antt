-- cited by public clauses
pub mod Bounds
-- cited by laws
pub mod Kept
