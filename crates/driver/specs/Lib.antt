pub mod Split
pub mod Request
pub mod Step
pub mod Machine
