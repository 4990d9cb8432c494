pub mod Sites
pub mod Expressions
pub mod Blocks
pub mod Lowered
pub mod Written
pub mod Levels
pub mod Texts
