pub mod Early
pub mod Laws
