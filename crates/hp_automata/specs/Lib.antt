pub mod NewNames
pub mod Names
pub mod Renaming
pub mod Lowering
pub mod Inside
pub mod Lists
pub mod Held
