pub mod Spans
pub mod Fences
pub mod Binding
pub mod Addresses
