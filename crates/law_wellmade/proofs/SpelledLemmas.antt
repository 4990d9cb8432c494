pub mod Letters
pub mod TextIntegers
pub mod ReplacedIntegers
pub mod TextTypes
pub mod Joined
