mod BitFunctions
pub mod ControlBits
mod ChoosingLaws
mod PermittedLaws
