pub mod Grown
pub mod Once
pub mod Shallow
pub mod Inserted
