-- cited by public clauses and laws
pub mod Negotiation
pub mod Runs
pub mod Sessions
pub mod Swarm
