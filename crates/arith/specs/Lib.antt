-- In the order to read them.
pub mod Residues
pub mod Gcd
pub mod Units
pub mod Bytes
pub mod Refusals
pub mod Texts
pub mod Answers
pub mod Calls
