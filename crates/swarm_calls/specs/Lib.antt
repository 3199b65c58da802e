-- cited by public clauses and laws
pub mod History
pub mod Calls
-- inside: no public clause cites them
pub mod AnyConfig
pub mod Steps
pub mod Ledgers
pub mod Snapshots
pub mod Locked
