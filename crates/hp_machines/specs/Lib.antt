pub mod Making
pub mod Machined
pub mod Flattened
pub mod NotBuilt
pub mod One
pub mod Apart
pub mod Copies
pub mod Needed
