pub mod Loops
pub mod Programs
