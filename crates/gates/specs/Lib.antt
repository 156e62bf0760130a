-- In the order to read them. `Inner` has what the contracts of functions inside the crate speak of: no reader needs it to believe what a public call promises.
pub mod Row
pub mod Kind
pub mod Written
pub mod Ticks
pub mod Load
pub mod Calls
pub mod Schedules
pub mod Common
pub mod Inner
