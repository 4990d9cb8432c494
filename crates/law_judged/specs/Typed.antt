pub mod Merges
pub mod Scopes
pub mod Typed
