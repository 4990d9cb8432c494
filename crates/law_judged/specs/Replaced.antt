pub mod Fitting
pub mod Laws
pub mod Inlined
pub mod Judged
