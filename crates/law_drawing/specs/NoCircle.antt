pub mod Marks
pub mod Heights
pub mod Asked
pub mod Typed
pub mod Nodes
pub mod Laws
