pub mod OneLoop
pub mod ControlledLoops
pub mod Extended
pub mod LoopKinds
pub mod Loops
pub mod WorkedLoop
pub mod Programs
