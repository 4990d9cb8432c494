pub mod LayerLaws
pub mod ListedLaws
pub mod NameLaws
pub mod Rules
