pub mod Firsts
pub mod Rules
