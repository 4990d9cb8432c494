pub mod Contracts
pub mod Laws
pub mod Texts
pub mod Worked
