pub mod Pairs
pub mod LoadedTwice
pub mod SameValues
pub mod SameOperations
pub mod SameModules
pub mod SameFaults
pub mod OneRefusal
pub mod OneAnswer
