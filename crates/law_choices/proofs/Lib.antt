pub mod OneForOneLemmas
pub mod IndependentLemmas
pub mod DependingLemmas
pub mod UndisturbedLemmas
pub mod OrderedLemmas
pub mod ClosedLemmas
pub mod OnClocksLemmas
pub mod ChoosingLemmas
pub mod RunsLemmas
pub mod FilledLemmas
pub mod FlatLemmas
mod StreamsLemmas
pub mod ChosenLemmas
pub mod OnceLemmas
pub mod PlacesLemmas
mod AnsweredLemmas
pub mod PartLemmas
pub mod AddingLemmas
mod CodedLemmas
pub mod InTurnLemmas
mod InstancesLemmas
pub mod ObservedLemmas
pub mod PlayingLemmas
mod SeeingLemmas
pub mod BroughtLemmas
mod EmbeddedLemmas
