pub mod Items
pub mod Seen
pub mod Tables
