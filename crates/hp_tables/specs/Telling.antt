pub mod Seen
pub mod Tellings
