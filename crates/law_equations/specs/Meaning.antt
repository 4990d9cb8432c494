pub mod Instants
pub mod Reactions
pub mod Fitting
pub mod Scheduling
pub mod Solving
pub mod Kinding
