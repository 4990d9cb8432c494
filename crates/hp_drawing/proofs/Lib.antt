pub mod KeptLaws
pub mod ListLaws
pub mod NamesLaws
mod NextLaws
pub mod NodeDrawn
pub mod PlanDrawn
pub mod PlanLaws
pub mod SetLaws
pub mod SlottedLemmas
