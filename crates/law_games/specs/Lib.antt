pub mod Wires
pub mod Wiretyped
pub mod Settled
pub mod Mirror
pub mod Abstracted
pub mod ReadyGames
pub mod Forced
pub mod Guaranteed
