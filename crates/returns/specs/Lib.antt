pub mod Returns
pub mod Edges
pub mod Post
pub mod Numbers
pub mod Laws
pub mod Promises
