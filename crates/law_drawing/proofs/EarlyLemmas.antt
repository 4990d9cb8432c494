pub mod Running
pub mod Flags
pub mod Walk
pub mod Blocks
pub mod Nodes
pub mod Right
