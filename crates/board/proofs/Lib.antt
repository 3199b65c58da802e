pub mod Tables
pub mod Telling
pub mod Stepping
pub mod LettingGo
pub mod Holding
