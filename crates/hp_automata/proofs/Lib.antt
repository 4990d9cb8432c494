pub mod ListLaws
pub mod NameLaws
pub mod WordLaws
pub mod LayerLaws
pub mod FrameLaws
pub mod PartLaws
pub mod BlockLaws
pub mod ProgramLaws
pub mod Rules
mod Worked
