pub mod View
pub mod Touched
pub mod Words
