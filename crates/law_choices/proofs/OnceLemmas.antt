pub mod Deciding
pub mod Tests
pub mod Strategies
pub mod Gathering
pub mod Once
pub mod Worked
pub mod Ready
