pub mod Once
pub mod Singly
pub mod Laws
