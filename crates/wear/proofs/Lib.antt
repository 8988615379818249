pub mod Grown
pub mod Laws
pub mod Stretches
