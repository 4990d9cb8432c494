pub mod Causal
pub mod Clocking
pub mod Contract
