pub mod ModuleNotes
pub mod Mentions
pub mod Numbers
pub mod Said
