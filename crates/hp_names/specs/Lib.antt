pub mod Names
pub mod Scopes
pub mod Rules
pub mod Claims
pub mod Breaches
