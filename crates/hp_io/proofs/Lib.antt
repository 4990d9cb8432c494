pub mod CalmLaws
pub mod FaultLaws
pub mod Given
pub mod Placed
pub mod ToldLaws
mod WholeLaws
