pub mod Wired
pub mod WiredBlocks
pub mod WiredNodes
pub mod WiredCallees
pub mod Laws
