pub mod Looping
pub mod Dependence
pub mod Laws
pub mod Targets
pub mod Places
pub mod Found
pub mod Contracts
