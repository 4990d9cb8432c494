pub mod BlockGrowth
pub mod CallSteps
pub mod ExpressionGrowth
pub mod Growth
pub mod Letters
pub mod NodeGrowth
pub mod NodeNames
