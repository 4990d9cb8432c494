pub mod Typed
pub mod Named
pub mod Replaced
pub mod Plain
pub mod Once
pub mod Clocked
