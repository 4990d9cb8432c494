pub mod Memories
pub mod Premises
pub mod Following
pub mod Programs
