pub mod Defining
pub mod Declarations
pub mod Telling
pub mod Renaming
