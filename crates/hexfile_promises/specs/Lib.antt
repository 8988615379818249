pub mod Files
pub mod Promises
pub mod Numbers
pub mod Pinned
pub mod Idle
pub mod Worked
