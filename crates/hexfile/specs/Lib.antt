pub mod Record
pub mod File
pub mod Written
pub mod Calls
pub mod Steps
