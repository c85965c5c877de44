mod InOrder
mod Counted
mod Early
mod NewNames
mod Scoped
mod OwnNames
mod Pieces
mod OneStep
mod Naming
pub mod WholeModule
mod Flat
pub mod Fitting
pub mod NewAliases
