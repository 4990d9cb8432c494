pub mod DefiningLemmas
pub mod DeclarationsLemmas
pub mod TellingLemmas
pub mod RenamingLemmas
