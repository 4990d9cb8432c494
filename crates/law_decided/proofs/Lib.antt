pub mod Decided
pub mod Outcomes
pub mod Promised
pub mod Mirrored
