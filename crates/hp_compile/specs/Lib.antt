pub mod Judged
pub mod Counts
pub mod Shapes
pub mod Arranged
pub mod Refusals
pub mod OneCause
pub mod OneWalk
