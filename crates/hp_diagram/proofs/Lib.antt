pub mod Canonical
pub mod Choices
pub mod Growth
pub mod Kept
pub mod Paths
pub mod Splits
