pub mod Blocks
pub mod Expressions
pub mod Laws
pub mod Nodes
pub mod Pieces
pub mod TypesRead
