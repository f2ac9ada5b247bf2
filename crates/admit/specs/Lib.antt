pub mod Admit
pub mod Contests
pub mod Evictions
pub mod Admission
pub mod Spares
pub mod Placed
