pub mod Input
pub mod Machine
pub mod Poolrun
pub mod History
pub mod Demand
pub mod Alike
pub mod Whole
