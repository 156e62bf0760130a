pub mod View
pub mod Sums
pub mod Parts
pub mod Changing
