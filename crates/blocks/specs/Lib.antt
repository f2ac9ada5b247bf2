pub mod Blocks
pub mod Edges
pub mod Steps
pub mod Tests
pub mod Runs
pub mod Numbers
pub mod Post
