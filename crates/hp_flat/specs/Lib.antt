pub mod Equations
pub mod EquationCode
pub mod EquationView
pub mod Nodes
pub mod NodeCode
pub mod NodeView
