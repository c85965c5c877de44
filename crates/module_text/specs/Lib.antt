pub mod WellFormed
pub mod ReadAgain
