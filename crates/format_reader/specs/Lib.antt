pub mod Spelling
pub mod Tokens
pub mod Scan
pub mod Elements
pub mod Formats
pub mod Ran
pub mod Inside
