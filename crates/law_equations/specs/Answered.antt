pub mod Answering
pub mod Fitting
pub mod Short
pub mod Laws
