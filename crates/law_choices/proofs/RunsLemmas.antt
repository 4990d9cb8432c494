pub mod Chosen
pub mod Values
pub mod Lowered
pub mod Runs
pub mod Wholes
