pub mod Pool
pub mod Laws
pub mod Steps
pub mod Ok
pub mod Lent
