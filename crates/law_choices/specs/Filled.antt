pub mod Filled
pub mod Laws
pub mod Ready
pub mod Valued
