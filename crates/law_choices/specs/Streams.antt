pub mod Alike
pub mod Streams
pub mod Names
pub mod Places
pub mod Uncontrolled
pub mod Meaningful
