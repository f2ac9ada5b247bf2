pub mod Laws
pub mod Streams
