pub mod Laws
pub mod Always
