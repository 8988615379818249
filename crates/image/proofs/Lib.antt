pub mod Laws
pub mod Form
pub mod Kept
pub mod Idle
pub mod Numbers
