pub mod Checks
pub mod Passed
pub mod Edges
pub mod Exactly
pub mod Numbers
