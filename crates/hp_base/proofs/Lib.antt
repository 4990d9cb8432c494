pub mod Quotients
pub mod FirstLemmas
pub mod KnownLemmas
