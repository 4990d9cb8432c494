pub mod Labels
pub mod Tables
pub mod Making
pub mod Flags
pub mod Stepping
