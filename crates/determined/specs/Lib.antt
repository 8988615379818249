pub mod Determined
pub mod Walked
pub mod Functions
pub mod Machines
