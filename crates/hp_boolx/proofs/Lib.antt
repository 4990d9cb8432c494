pub mod SearchLaws
pub mod GameLaws
pub mod Preferring
pub mod SolvedLaws
pub mod GateLaws
mod Worked
