pub mod Written
pub mod ClocksFirst
pub mod Outputs
pub mod Laws
