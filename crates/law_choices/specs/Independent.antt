pub mod Dependence
pub mod Laws
