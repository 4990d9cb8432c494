pub mod Layers
pub mod Names
pub mod Seen
