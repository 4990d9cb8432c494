pub mod EachLaws
pub mod KindLaws
pub mod TypeLaws
pub mod ScopeLaws
pub mod SizeLaws
pub mod DepthLaws
pub mod MachineLaws
pub mod FormLaws
pub mod Rules
mod RegularLemmas
