-- cited by public clauses and laws
pub mod Ranges
pub mod Limits
pub mod AgentName
pub mod Parts
pub mod History
pub mod Table
pub mod Shown
pub mod At
pub mod Added
pub mod Bounded
pub mod Ordered
pub mod Rows
