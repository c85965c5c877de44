pub mod Roots
pub mod Definitions
pub mod Grown
pub mod Search
