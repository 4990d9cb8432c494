pub mod Sets
pub mod Judged
pub mod Declared
pub mod Clocks
