pub mod NameLaws
pub mod TypeLaws
pub mod ExpressionLaws
pub mod BlockLaws
pub mod ProgramLaws
pub mod Worked
