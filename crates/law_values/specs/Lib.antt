pub mod Valued
pub mod Accepted
pub mod Filled
