pub mod Totals
pub mod SearchLaws
pub mod LinkLaws
pub mod LookLaws
pub mod ResultLaws
pub mod EdgeLaws
pub mod Rules
