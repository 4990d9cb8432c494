pub mod Good
pub mod Relates
pub mod Laws
