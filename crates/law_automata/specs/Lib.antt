pub mod Lowered
pub mod Lowerable
pub mod Readied
pub mod Classed
