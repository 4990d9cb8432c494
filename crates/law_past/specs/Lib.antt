pub mod Remembered
pub mod OneBit
pub mod Unfolded
