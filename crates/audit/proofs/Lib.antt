pub mod Turns
pub mod Words
pub mod Fresh
pub mod Oks
