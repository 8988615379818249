pub mod Wear
pub mod Report
pub mod Worst
pub mod Calls
