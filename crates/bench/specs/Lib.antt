pub mod Together
pub mod Tape
pub mod Calls
pub mod Worn
pub mod Kept
pub mod Held
