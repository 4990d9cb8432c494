pub mod LoweredLemmas
pub mod LowerableLemmas
pub mod ReadiedLemmas
pub mod ClassedLemmas
