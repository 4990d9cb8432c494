pub mod Steps
pub mod Expressions
pub mod Blocks
pub mod Nodes
