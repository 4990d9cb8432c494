pub mod Words
pub mod Numbers
pub mod Values
pub mod Refusals
pub mod Lines
