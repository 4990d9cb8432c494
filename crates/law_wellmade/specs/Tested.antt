pub mod Fits
pub mod Apart
pub mod Around
pub mod Laws
