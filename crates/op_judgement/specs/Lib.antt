pub mod Grounds
pub mod Shown
pub mod Judged
pub mod Found
pub mod Entered
pub mod Parts
pub mod Arity
pub mod Rules
