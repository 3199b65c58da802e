-- cited by public clauses and laws
pub mod Faults
pub mod Messages
pub mod Sending
pub mod Streams
pub mod Reading
pub mod Parts
pub mod Rows
-- inside: no public clause cites it
pub mod Room
