pub mod Inputs
pub mod Slots
pub mod Told
