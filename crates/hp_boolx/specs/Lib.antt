pub mod Search
pub mod Game
pub mod Solved
pub mod Machine
pub mod MachineView
pub mod PartsView
pub mod Laws
