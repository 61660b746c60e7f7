pub mod Hex
pub mod Lines
pub mod Names
pub mod Numbers
pub mod Reasons
pub mod Words
