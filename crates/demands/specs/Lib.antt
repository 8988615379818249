pub mod Demands
pub mod Requests
