pub mod Laws
pub mod Texts
pub mod Runs
pub mod Promises
pub mod Numbers
