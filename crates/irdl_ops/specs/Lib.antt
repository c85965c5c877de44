pub mod Forms
pub mod Entries
pub mod Constraints
pub mod Statements
pub mod Bodies
pub mod Definitions
