pub mod Peers
pub mod Laws
pub mod Flat
pub mod Refusals
