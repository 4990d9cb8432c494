pub mod Walks
pub mod Lines
pub mod Placed
pub mod Made
pub mod Tasks
