pub mod Clocks
pub mod Judged
pub mod Renamed
pub mod Numbered
pub mod Fine
pub mod Replaced
pub mod ReplacedNodes
