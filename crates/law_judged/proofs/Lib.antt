pub mod TypedLemmas
pub mod NamedLemmas
pub mod ReplacedLemmas
pub mod PlainLemmas
pub mod OnceLemmas
pub mod ClockedLemmas
