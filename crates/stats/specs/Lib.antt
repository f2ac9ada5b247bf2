pub mod Stats
pub mod Scan
pub mod Edges
