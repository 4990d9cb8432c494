pub mod Walk
pub mod Adding
pub mod Lifting
pub mod Embedding
pub mod Observing
pub mod Watching
pub mod Growing
