pub mod Alike
pub mod Signatures
pub mod TypeKinds
pub mod Streams
pub mod Names
pub mod Places
pub mod Uncontrolled
