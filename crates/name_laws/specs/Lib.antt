pub mod Generic
pub mod NewAliases
