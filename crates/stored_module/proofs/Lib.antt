pub mod Printable
pub mod Names
pub mod Bytes
pub mod Holding
