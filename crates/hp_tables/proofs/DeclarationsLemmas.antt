pub mod Rules
pub mod TableLaws
