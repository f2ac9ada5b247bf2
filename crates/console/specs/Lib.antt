pub mod Calls
pub mod Kept
pub mod Console
pub mod After
pub mod Desk
pub mod Texts
pub mod Laws
