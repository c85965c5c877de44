pub mod OneToken
pub mod Fits
pub mod Files
pub mod Entries
