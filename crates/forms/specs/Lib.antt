pub mod Text
pub mod TextLaws
pub mod Nums
pub mod NumLaws
