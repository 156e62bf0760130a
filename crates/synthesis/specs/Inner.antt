pub mod Reduce
pub mod Progress
pub mod Held
pub mod Seen
pub mod Did
