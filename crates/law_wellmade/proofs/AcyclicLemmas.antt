pub mod Chains
pub mod Variables
pub mod Names
pub mod CallLaws
pub mod ExpressionLaws
pub mod DefinitionLaws
pub mod BlockLaws
pub mod NodeLaws
