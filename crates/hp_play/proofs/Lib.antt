mod Failing
mod ListLaws
mod ForcingLaws
mod PickLaws
mod MoveLaws
mod FieldLaws
mod PlayLaws
