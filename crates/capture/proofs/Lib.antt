pub mod Sampled
pub mod Quiet
pub mod Finish
