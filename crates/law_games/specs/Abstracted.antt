pub mod Fitting
pub mod Given
pub mod Instances
pub mod SameGiven
pub mod Laws
