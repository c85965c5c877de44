pub mod HostState
pub mod MemFiles
pub mod MemSink
pub mod OpenAt
pub mod Outside
pub mod Planned
pub mod Whole
