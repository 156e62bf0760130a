-- In the order to read them. `Inner` has what the contracts of functions inside the crate speak of: no reader needs it to believe what a public call promises.
pub mod Tableau
pub mod Soundness
pub mod Inverse
pub mod Bytes
pub mod Range
pub mod Calls
pub mod Batch
pub mod Comparing
pub mod Inner
