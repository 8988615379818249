pub mod Laws
pub mod Turns
pub mod Quick
pub mod Groups
