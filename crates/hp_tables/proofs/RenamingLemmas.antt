pub mod RenamingLaws
pub mod Rules
