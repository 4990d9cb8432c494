pub mod Nested
pub mod Laws
