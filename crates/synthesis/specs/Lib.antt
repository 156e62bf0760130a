-- In the order to read them. `Inner` has what the contracts of functions inside the crate speak of: no reader needs it to believe what a public call promises.
pub mod Demand3
pub mod Chosen
pub mod Restored
pub mod Measures
pub mod Inner
