pub mod WordLaws
pub mod ReadLaws
pub mod LineLaws
pub mod KindLaws
