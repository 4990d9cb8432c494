pub mod PlaceLaws
pub mod WalkLaws
pub mod FunctionLaws
pub mod TaskLaws
