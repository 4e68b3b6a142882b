pub mod Meaning
pub mod Bytes
pub mod Tables
