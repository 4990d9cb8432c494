pub mod Accepted
pub mod Filled
pub mod Reached
