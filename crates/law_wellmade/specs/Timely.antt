pub mod Kinds
pub mod Actual
pub mod Tested
pub mod Kept
pub mod Laws
