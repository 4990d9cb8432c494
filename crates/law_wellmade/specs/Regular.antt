pub mod Laws
pub mod Kinds
