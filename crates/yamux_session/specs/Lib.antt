-- cited by public clauses and laws
pub mod History
pub mod Openings
pub mod Windows
pub mod Faults
pub mod Events
pub mod Data
pub mod Output
pub mod Acts
pub mod Naming
pub mod State
pub mod Runs
pub mod Limits
pub mod Received
pub mod Seen
pub mod Endings
pub mod Joined
pub mod Tied
pub mod OneOutcome
pub mod Arrives
pub mod Rows
pub use Rattle.yamux_frames.specs.Spelling
pub use Rattle.yamux_frames.specs.Place
pub use Rattle.yamux_frames.specs.Frames
-- inside: no public clause cites them
pub mod Table
pub mod Keeps
pub mod Heads
