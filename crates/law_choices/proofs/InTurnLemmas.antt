pub mod Allowed
mod Calls
pub mod Contracted
pub mod Names
pub mod Observed
pub mod Observers
pub mod Programs
pub mod Said
pub mod Standing
pub mod Telling
pub mod Tells
pub mod TellsFor
pub mod Texts
pub mod Types
pub mod WorkedContract
