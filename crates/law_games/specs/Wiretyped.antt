pub mod Typed
pub mod Kept
pub mod Callees
pub mod Fitting
pub mod Laws
