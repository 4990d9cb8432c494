pub mod Formulas
pub mod Names
pub mod Own
pub mod Unfolding
pub mod Made
pub mod Past
pub mod Remembering
pub mod Remembered
