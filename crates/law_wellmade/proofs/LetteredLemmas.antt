pub mod NewLetters
pub mod TextNames
pub mod ReplacedNames
pub mod ClockedNames
pub mod LoweredNames
pub mod Sketches
pub mod SketchedNodes
pub mod Joined
