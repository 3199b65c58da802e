-- cited by public clauses
pub mod Stages
pub mod Follows
pub mod Polling
-- inside
pub mod Turning
