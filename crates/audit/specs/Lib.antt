pub mod Faults
pub mod Turns
pub mod Records
pub mod Audit
pub mod Accepted
pub mod Alone
