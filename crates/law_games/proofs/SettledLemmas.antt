pub mod Calling
pub mod AllCall
pub mod NoCalls
pub mod Zeros
pub mod Reached
pub mod Settled
pub mod Wirings
pub mod ZeroValues
