pub mod Values
pub mod Parts
pub mod Form
pub mod Worked
