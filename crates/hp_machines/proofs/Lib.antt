pub mod MakingLaws
mod Rules
pub mod HeadingLaws
mod NotBuiltLaws
pub mod OneLaws
mod NeededLaws
mod ApartLaws
mod CopiesLaws
