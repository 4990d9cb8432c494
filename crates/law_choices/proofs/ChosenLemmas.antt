pub mod SlotsMade
pub mod Seen
pub mod Nils
pub mod NilBlocks
pub mod NilNames
pub mod Served
pub mod ServedNodes
pub mod Chosen
