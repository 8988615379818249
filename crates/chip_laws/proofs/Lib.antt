pub mod Range
pub mod Roll
pub mod Runs
pub mod Bytes
pub mod Trials
