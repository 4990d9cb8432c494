pub mod Closed
pub mod Exclusive
pub mod Clocking
pub mod Compilable
