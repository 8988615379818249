pub mod Answers
pub mod Walked
pub mod Machines
pub mod Functions
