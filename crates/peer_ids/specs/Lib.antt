-- cited by public clauses and laws
pub mod Key
pub mod ReadsKey
pub mod PeerId
pub mod Base32
pub mod ReadsText
pub mod Laws
pub mod Rows
-- inside: no public clause cites them
pub mod Padded
pub mod Short
