pub mod Said
pub mod Cards
pub mod Heads
pub mod Sheets
