pub mod Clocking
pub mod EachExpression
pub mod Equations
pub mod EveryClock
pub mod Laws
pub mod Solving
pub mod Terms
