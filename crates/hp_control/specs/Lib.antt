pub mod Controlling
pub mod Choosing
