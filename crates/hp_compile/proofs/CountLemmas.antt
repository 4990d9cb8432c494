pub mod Types
pub mod Local
pub mod Fits
pub mod Same
pub mod Tests
pub mod Plain
pub mod Shaped
pub mod Marks
pub mod Breaches
pub mod Quiet
pub mod Contracts
mod Worked
