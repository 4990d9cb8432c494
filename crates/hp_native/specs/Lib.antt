pub mod Natively
pub mod Alike
pub mod Order
pub mod Linking
pub mod Stepping
