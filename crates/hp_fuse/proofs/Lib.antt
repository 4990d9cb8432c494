pub mod SizeLaws
pub mod Unset
pub mod LikeLaws
pub mod PairLaws
pub mod JoinLaws
pub mod LedLaws
pub mod LevelLaws
pub mod Steps
mod Worked
pub mod Rules
