pub mod Kinds
pub mod Declaring
pub mod Scoping
pub mod Scopes
pub mod Regular
