pub mod ArgumentLaws
pub mod CommandLaws
pub mod ReadLaws
