pub mod Facts
pub mod Says
pub mod Names
pub mod AliasValues
pub mod WholeModules
pub mod Completes
pub mod SeenModules
