pub mod Form
pub mod Layout
pub mod Promises
pub mod Numbers
pub mod Pinned
pub mod Wrong
pub mod Swapped
pub mod Worst
