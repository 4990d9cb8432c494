pub mod SuitedLaws
