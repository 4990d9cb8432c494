pub mod Controls
pub mod Apart
pub mod Ready
pub mod Contracts
