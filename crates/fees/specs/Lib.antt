pub mod Fees
pub mod Bins
pub mod Edges
