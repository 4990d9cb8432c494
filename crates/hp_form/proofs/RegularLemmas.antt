pub mod RegularLaws
