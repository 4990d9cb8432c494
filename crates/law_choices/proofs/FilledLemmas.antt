pub mod Fitting
pub mod Given
pub mod Agreement
pub mod Reactions
pub mod Ready
