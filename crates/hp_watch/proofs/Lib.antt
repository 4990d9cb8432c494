pub mod WalkLaws
pub mod LiftLaws
pub mod EmbedLaws
pub mod ObserveLaws
pub mod PlaceLaws
pub mod SurveyLaws
pub mod GrowLaws
pub mod Rules
