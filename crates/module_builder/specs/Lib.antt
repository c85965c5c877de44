pub mod Fit
pub mod Built
pub mod Firsts
pub mod Rows
pub mod Making
pub mod Filled
