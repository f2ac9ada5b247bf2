pub mod Walk
pub mod Chains
pub mod Frames
pub mod Turns
pub mod Weights
pub mod Family
pub mod Steps
