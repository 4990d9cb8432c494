pub mod Canonical
pub mod TheCertificate
pub mod Decided
pub mod Found
pub mod Laws
pub mod Verified
