pub mod Versions
pub mod Readings
pub mod Writings
