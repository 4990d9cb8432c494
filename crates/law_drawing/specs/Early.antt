pub mod Flags
pub mod Right
