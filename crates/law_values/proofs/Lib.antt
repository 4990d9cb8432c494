pub mod ValuedLemmas
pub mod AcceptedLemmas
pub mod FilledLemmas
