pub mod Keeping
pub mod Compiling
