pub mod Faults
pub mod Format
pub mod Kinds
pub mod Questions
pub mod Plain
pub mod Runs
pub mod Reader
pub mod Claims
