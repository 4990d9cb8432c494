pub mod Meanings
pub mod Programs
