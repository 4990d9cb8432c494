pub mod Adding
pub mod Owning
pub mod Numbers
pub mod Expressions
pub mod Blocks
pub mod Nodes
