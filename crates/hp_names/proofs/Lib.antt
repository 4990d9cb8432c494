pub mod NameLaws
pub mod FoundLaws
pub mod ScopeLaws
pub mod BlockLaws
pub mod ItemLaws
pub mod RuleLaws
pub mod FirstLaws
pub mod Rules
