pub mod Events
pub mod Faults
pub mod Files
pub mod Memory
pub mod Reads
pub mod Real
pub mod Told
