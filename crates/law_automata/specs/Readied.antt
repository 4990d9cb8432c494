pub mod Single
pub mod Constants
pub mod Laws
pub mod Sound
pub mod Accepted
