pub mod Clocks
pub mod WellMade
pub mod Meaning
pub mod Programs
