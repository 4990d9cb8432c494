pub mod Reading
pub mod Retargeting
pub mod Substituting
pub mod Choices
pub mod Needing
pub mod Normal
pub mod Following
pub mod Tables
