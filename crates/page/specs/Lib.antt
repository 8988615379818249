pub mod Look
pub mod Promise
