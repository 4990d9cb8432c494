pub mod Asked
pub mod Composed
pub mod ComposedEach
pub mod Copied
pub mod Implied
pub mod Imported
pub mod Marked
pub mod Sought
