pub mod Arguments
pub mod Laws
pub mod Heights
