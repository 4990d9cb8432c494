pub mod Laws
pub mod Outcomes
pub mod Promised
pub mod Acceptable
pub mod Mirrored
