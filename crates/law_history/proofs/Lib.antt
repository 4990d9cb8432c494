pub mod CountedLemmas
pub mod StreamsLemmas
