mod AbstractionLaws
mod BlockLaws
mod MachineLaws
mod NameLaws
pub mod OneLaws
mod Rules
mod ScopeLaws
mod TableLaws
mod TellingLaws
