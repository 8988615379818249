pub mod Trace
pub mod Promises
pub mod Numbers
