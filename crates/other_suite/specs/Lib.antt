pub mod Ring
pub mod Plan
pub mod Rings
pub mod Starts
