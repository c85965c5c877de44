pub mod Seen
pub mod Sound
pub mod Meets
pub mod Asked
pub mod Parts
pub mod Types
pub mod Views
