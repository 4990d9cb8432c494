pub mod Scopes
pub mod Scoped
pub mod Laws
