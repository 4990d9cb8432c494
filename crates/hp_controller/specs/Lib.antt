pub mod Controllers
pub mod Controlling
pub mod Gates
pub mod Steps
pub mod Laws
pub mod Extending
pub mod Decoding
pub mod Controlled
