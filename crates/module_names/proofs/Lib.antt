pub mod Bare
mod Capped
mod Mentioning
pub mod Cut
pub mod Opened
pub mod Opening
pub mod Saying
pub mod Silent
mod Sizes
pub mod Whole
