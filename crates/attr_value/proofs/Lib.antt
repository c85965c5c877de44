pub mod Kids
pub mod Named
pub mod Order
pub mod Powers
pub mod Same
pub mod SameHead
