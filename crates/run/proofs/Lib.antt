pub mod Binders
pub mod Taken
