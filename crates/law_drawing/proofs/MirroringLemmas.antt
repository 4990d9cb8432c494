pub mod Carried
pub mod Codes
pub mod Gates
pub mod Held
pub mod Numbered
pub mod Ready
pub mod Same
pub mod Valid
