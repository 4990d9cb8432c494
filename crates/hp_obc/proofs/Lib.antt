pub mod Examples
pub mod OperatorKinds
pub mod Positions
pub mod Naming
pub mod KindLaws
