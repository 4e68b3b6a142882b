pub mod Faults
pub mod Chain
pub mod Rows
pub mod Drafts
pub mod Steps
pub mod Runs
pub mod Laws
