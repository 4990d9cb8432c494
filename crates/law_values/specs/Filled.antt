pub mod Firsts
pub mod Under
pub mod Laws
