pub mod Fusing
pub mod Likeness
pub mod Joining
