pub mod Modules
pub mod Numbering
pub mod Named
pub mod Growth
pub mod Store
pub mod Code
pub mod Rows
pub mod Read
