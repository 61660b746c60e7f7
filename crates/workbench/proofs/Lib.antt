mod Tracing
mod Turns
pub mod Texts
pub mod Scripts
