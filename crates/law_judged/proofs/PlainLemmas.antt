pub mod Plain
pub mod Full
pub mod Weighed
pub mod CallsOfTexts
pub mod Spelled
