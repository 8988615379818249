pub mod Layout
pub mod Calls
pub mod Promises
pub mod Idle
pub mod Numbers
