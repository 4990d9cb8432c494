pub mod Reacting
pub mod Integers
pub mod InKind
