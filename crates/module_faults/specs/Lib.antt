pub mod Standings
pub mod OpFaults
pub mod ModuleFaults
pub mod Shape
pub mod Listed
