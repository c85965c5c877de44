pub mod Elaborated
pub mod Names
pub mod Aliases
pub mod Regions
pub mod Operations
pub mod Uses
pub mod Judged
pub mod Composed
