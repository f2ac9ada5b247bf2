pub mod Input
pub mod Tidier
pub mod Loop
pub mod Whole
