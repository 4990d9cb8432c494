mod SameLaws
mod NativeLaws
mod OrderLaws
mod LinkLaws
mod SteppingLaws
pub mod Rules
