pub mod Start
pub mod Queries
pub mod Listing
