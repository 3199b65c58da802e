-- cited by public clauses
pub mod Moving
pub mod Calling
pub mod Piping
-- inside
pub mod PipeLaws
