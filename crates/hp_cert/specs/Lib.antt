pub mod Proving
pub mod Checked
pub mod Marks
pub mod Steps
pub mod Conditions
pub mod Certmade
pub mod Certtext
