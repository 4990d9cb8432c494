pub mod Lists
pub mod KindSizes
pub mod BlockLists
pub mod CountLaws
pub mod Rules
pub mod Worked
