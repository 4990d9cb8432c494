pub mod Lifted
pub mod Numbers
pub mod Bits
pub mod Watched
pub mod Kinds
