pub mod Reading
pub mod WindowLaws
pub mod BanksLaws
pub mod BufferLaws
pub mod StacksLaws
