pub mod Lists
pub mod LabelLaws
pub mod CommandLaws
pub mod PlaceLaws
pub mod FlagLaws
pub mod AfterLaws
pub mod NameLaws
pub mod Rules
