pub mod Lists
pub mod OneInstant
pub mod KindLaws
pub mod Possible
pub mod OneReaction
