pub mod Assignments
pub mod Bodies
pub mod Goodness
pub mod Segments
pub mod Operations
