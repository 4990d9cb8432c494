pub mod Meaning
pub mod Flattened
pub mod Made
pub mod Followed
pub mod Fewer
pub mod Shaped
pub mod Answered
pub mod Fitting
