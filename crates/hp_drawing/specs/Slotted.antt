pub mod Laws
pub mod Slotted
