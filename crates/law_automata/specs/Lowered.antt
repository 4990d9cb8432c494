pub mod OldNames
pub mod Removable
pub mod Deciding
pub mod Giving
pub mod Standing
pub mod Laws
