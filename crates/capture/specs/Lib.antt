pub mod Samples
pub mod Ends
pub mod Marks
pub mod Tallies
pub mod Wires
pub mod Calls
pub mod Steps
pub mod Course
