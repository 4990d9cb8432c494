pub mod SpelledLemmas
pub mod TimelyLemmas
pub mod AcyclicLemmas
pub mod NestedLemmas
pub mod TestedLemmas
pub mod BegunLemmas
pub mod LetteredLemmas
mod ApartLemmas
mod SuitedLemmas
pub mod RegularLemmas
pub mod PartedLemmas
