pub mod Book
pub mod Charges
pub mod Ledger
pub mod Run
pub mod Demand3
