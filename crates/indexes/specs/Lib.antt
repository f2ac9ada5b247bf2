pub mod Owners
pub mod Conflicts
pub mod Spent
pub mod Inputs
pub mod Parents
pub mod Seeking
pub mod Resolved
