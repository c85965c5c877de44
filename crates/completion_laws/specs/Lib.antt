pub mod Named
pub mod Beside
pub mod Built
