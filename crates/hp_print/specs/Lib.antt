pub mod Tokens
pub mod Levels
pub mod ExpressionTokens
pub mod BlockTokens
pub mod ProgramTokens
pub mod Places
pub mod ReadBack
