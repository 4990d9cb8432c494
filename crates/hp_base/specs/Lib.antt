pub mod Arithmetic
pub mod Bytes
pub mod Coding
pub mod Kinds
pub mod Limits
pub mod SignatureView
pub mod First
pub mod Known
