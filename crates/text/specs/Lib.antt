-- In the order to read them. `Inner` has what the contracts of functions inside the crate speak of: no reader needs it to believe what the program promises.
pub mod Format
pub mod Partner
pub mod Convert
pub mod Stored
pub mod Inner
