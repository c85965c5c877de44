pub mod Added
pub mod FirstPlaces
pub mod NotPlanned
pub mod OpenFiles
pub mod Reading
pub mod Replaced
