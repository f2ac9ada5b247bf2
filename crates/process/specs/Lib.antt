pub mod Process
pub mod Edges
pub mod Bills
pub mod Post
pub mod Numbers
pub mod Claims
pub mod Promises
pub mod Words
