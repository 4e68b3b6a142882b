pub mod Window
pub mod Banks
pub mod Buffer
pub mod Words
pub mod Stacks
