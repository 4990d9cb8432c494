pub mod Plays
pub mod Fields
