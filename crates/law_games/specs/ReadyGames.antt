pub mod Laws
pub mod Conditions
pub mod FittingHistories
