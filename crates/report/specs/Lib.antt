pub mod Texts
pub mod Lines
pub mod Printing
pub mod Reports
