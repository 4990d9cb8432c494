pub mod CausalLemmas
pub mod ClockingLemmas
pub mod ContractLemmas
