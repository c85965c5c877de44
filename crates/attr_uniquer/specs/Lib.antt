pub mod Interned
pub mod Rows
