pub mod Implications
pub mod Lines
pub mod Memo
pub mod Quantifiers
pub mod Replacements
pub mod Turns
pub mod Sweeps
