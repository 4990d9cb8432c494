pub mod Blocks
pub mod Laws
pub mod Making
pub mod Sights
pub mod Keeping
pub mod Labels
pub mod Standing
pub mod Types
