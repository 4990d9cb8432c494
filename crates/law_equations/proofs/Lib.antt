mod MeaningLemmas
pub mod FlattenedLemmas
pub mod MadeLemmas
pub mod FollowedLemmas
pub mod FewerLemmas
pub mod ShapedLemmas
pub mod AnsweredLemmas
pub mod FittingLemmas
