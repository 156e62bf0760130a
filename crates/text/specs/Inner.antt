pub mod Scan
pub mod Reads
pub mod Prints
pub mod FromBytes
