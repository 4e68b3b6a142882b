pub mod Fault
pub mod Meaning
pub mod Shown
pub mod Bytes
pub mod Tables
pub mod Origins
