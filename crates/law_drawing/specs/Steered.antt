pub mod Marks
pub mod Placed
pub mod Stands
pub mod Asked
pub mod Nodes
pub mod Laid
pub mod Laws
pub mod Accepted
