pub mod PointRanks
pub mod Declared
pub mod Written
pub mod Programs
