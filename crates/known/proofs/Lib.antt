pub mod Bare
pub mod Together
