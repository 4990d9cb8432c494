pub mod Seen
pub mod Telling
pub mod Enforced
pub mod Machines
pub mod Abstractions
